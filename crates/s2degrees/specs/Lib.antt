pub mod Decimals
pub mod Degrees
pub mod Directions
pub mod Femtodegrees
pub mod Series
pub mod Tangents
pub mod Working
