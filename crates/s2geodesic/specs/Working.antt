-- What only private contracts and proofs need.
pub mod Places
pub mod Shortness
