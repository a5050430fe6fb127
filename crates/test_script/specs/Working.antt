pub mod Known
pub mod Logged
pub mod Observed
