-- What only private contracts and loops need. No public contract rests on it, so it is no part of the statement:
-- docs/STATEMENT.md says what is.
pub mod Edits
pub mod Noting
pub mod Buffered
pub mod Answer
pub mod Listing
pub mod Calls
pub mod Execute
pub mod Seen
pub mod Stands
pub mod Desk
pub mod Program
pub mod CommandLine
pub mod Check
pub mod Sessions
