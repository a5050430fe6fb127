pub mod Shapes
pub mod Notes
pub mod Boxes
pub mod Depths
