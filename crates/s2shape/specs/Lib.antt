pub mod GeoJson
pub mod Head
pub mod Known
pub mod Numbers
pub mod Reading
pub mod Wkb
pub mod Working
