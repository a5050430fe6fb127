mod Parents
mod Parts
mod Runs
pub mod Levelling
mod Rows
mod Forms
mod Visits
mod Formed
mod Rectangles
mod Regions
mod Coverings
pub mod OwnCells
mod Searches
mod Times
mod Splittings
mod Exactness
mod Squares
mod Rounded
mod Faces
mod Clips
mod Near
mod Corners
pub mod NormalForms
