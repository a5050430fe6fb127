-- What only private contracts and loops need. No public contract rests on it, so it is no part of the statement:
-- docs/STATEMENT.md says what is.
pub mod SessionParts
pub mod Taking
pub mod Source
pub mod Reading
