mod Corners
mod Degrees
mod Errors
mod Leaves
mod Maps
mod Polygons
mod Remaining
mod Walks
