pub mod File
pub mod Numbers
