-- What only private contracts and loops need. No public contract rests on it, so it is no part of the statement:
-- docs/STATEMENT.md says what is.
pub mod Union
pub mod Packed
pub mod Search
pub mod Walk
pub mod Piles
