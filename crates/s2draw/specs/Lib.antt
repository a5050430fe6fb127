pub mod Rectangles
pub mod Picture
pub mod Overlay
pub mod Zoom
