-- Cited by the crates above: normal forms, and how cells are packed.
pub mod Normal
pub mod PackedLocal
pub mod Packing
pub mod Placing
pub mod Checking
pub mod Families
pub mod Shortest
pub mod Lengths
pub mod Picking
pub mod Tiling
pub mod Counting
-- Cited by the crates above: walks and searches.
pub mod Walking
pub mod Asking
pub mod Galloping
pub mod Finding
pub mod Looking
pub mod Turns
-- Cited by the crates above: set operations.
pub mod Intersecting
pub mod Differences
pub mod Writing
pub mod Heaping
pub mod Putting
-- Cited by the crates above: the numbers in a file.
pub mod Numbers
-- Cited by the crates above: unions cut to levels.
pub mod Items
-- Of this crate alone.
mod Alone
mod Gapping
mod Laying
mod Leaving
mod Intersections
mod Uniting
mod Marking
mod Narrowing
mod Running
