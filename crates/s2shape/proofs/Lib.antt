pub mod Each
pub mod Times
