mod Fronts
mod Spelled
pub mod Spelling
mod SessionReading
mod SessionRows
mod Apart
mod Pieces
mod Taking
mod TakingCells
mod TakingRows
mod TakingSession
