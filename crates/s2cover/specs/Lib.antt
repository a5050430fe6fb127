pub mod Coverings
pub mod Cut
pub mod Near
pub mod Rough
pub mod Working
