-- What only private contracts and proofs need. No public contract rests on it, so it is no part of the statement:
-- docs/STATEMENT.md says what is.
pub mod Apart
pub mod Boxes
pub mod Counting
pub mod Crossed
pub mod Descent
pub mod Holding
pub mod Known
pub mod Rings
pub mod Sizes
