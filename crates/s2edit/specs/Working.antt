-- What only private contracts and loops need. No public contract rests on it, so it is no part of the statement:
-- docs/STATEMENT.md says what is.
pub mod Chain
pub mod Change
pub mod Editor
pub mod Named
pub mod Following
pub mod Part
pub mod InTurn
pub mod Splice
