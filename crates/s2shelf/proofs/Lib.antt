pub mod Begun
pub mod Given
mod Handed
pub mod Named
pub mod Opened
