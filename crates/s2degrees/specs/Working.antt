-- What only private contracts and proofs need.
pub mod Digits
pub mod Near
pub mod Numbers
