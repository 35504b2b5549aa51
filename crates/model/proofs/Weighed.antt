-- Refusals 17 and 18 are exact: no rule raises a line's sum, and the weight of a bad is the least of all counts that meet it.
pub mod Least
pub mod Groups
pub mod Lightest
pub mod Rules
pub mod Change
pub mod Exact
pub mod Form
