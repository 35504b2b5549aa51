-- How the rows of a well_formed program lie: which items stand where, and what that says of heads, branches and functions.
pub mod Spans
pub mod Reached
pub mod Grammar
pub mod Heads
pub mod Locations
pub mod Functions
pub mod Branches
pub mod Lengths
