-- What only private contracts and proofs need.
pub mod Corners
pub mod Remaining
