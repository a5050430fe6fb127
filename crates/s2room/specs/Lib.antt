pub mod Ancestors
pub mod Normalising
pub mod Working
