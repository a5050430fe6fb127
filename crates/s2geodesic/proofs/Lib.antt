mod Before
mod Opposite
mod Reaching
mod Rounding
mod Shortness
mod Sides
mod Tries
