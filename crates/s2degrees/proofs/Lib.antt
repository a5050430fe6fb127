pub mod Bounding
mod Decimals
mod Doubles
mod Numbers
pub mod Rising
pub mod Signs
pub mod Steps
mod Sums
