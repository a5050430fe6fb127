pub mod Numbers
pub mod Files
pub mod Texts
pub mod Beginnings
pub mod Known
