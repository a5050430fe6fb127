mod Accepts
mod Along
mod Arcs
mod Around
mod Bare
mod Beside
mod Between
mod Borders
mod Cells
pub mod Changes
mod Closed
mod Cones
mod Countings
mod Crossings
mod Descents
mod Faraway
mod Framing
mod Halves
mod Hulls
mod Indexes
mod Insides
pub mod Integers
mod Larger
mod Leaves
mod Listed
mod Meetings
mod Middles
mod MovedCorners
mod Moving
mod Neighbors
mod Octants
mod Pairs
pub mod Parity
mod Parts
mod Picking
mod PlaceSteps
mod Polygons
mod Quartering
pub mod Quarters
mod Rays
pub mod Rejects
pub mod Ringing
mod Sharing
mod Sides
pub mod Sizes
pub mod Steps
mod Tests
mod Touching
mod Triangles
pub mod Turned
mod Turning
mod Vectors
