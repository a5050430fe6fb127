pub mod Boxes
pub mod Cells
pub mod Edges
pub mod Examples
pub mod Few
pub mod Map
pub mod Rings
pub mod Working
