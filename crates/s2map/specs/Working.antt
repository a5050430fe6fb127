-- Definitions that only private contracts and proofs need.
pub mod Covering
pub mod Even
pub mod Near
pub mod Octants
pub mod Parts
pub mod Sizes
