-- Each check of refusals 1 to 8 says what the conditions of specs/Demands.antt and specs/Wanted.antt say, and a bad is met as specs/Met.antt says it.
pub mod Tests
pub mod Checks
pub mod Answer
pub mod Parts
pub mod Reading
pub mod Bads
pub mod Met
pub mod Rows
pub mod Names
pub mod Entries
pub mod Members
pub mod Finds
pub mod MayMatch
pub mod States
pub mod Closed
pub mod Sound
