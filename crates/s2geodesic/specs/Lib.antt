pub mod Halves
pub mod Rounded
pub mod Working
