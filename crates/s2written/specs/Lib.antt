pub mod Coverings
pub mod Faults
pub mod Few
pub mod Geodesics
pub mod Maps
pub mod Several
pub mod Walks
pub mod Working
