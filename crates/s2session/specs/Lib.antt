pub mod Session
pub mod Laws
pub mod Reading
pub mod Working
