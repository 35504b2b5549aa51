-- Refusals 10 to 13 are exact: the counts under the ceilings hold the start, are kept by each rule and meet no bad.
pub mod Words
pub mod Under
pub mod Met
pub mod Fire
pub mod Shaped
pub mod Leak
pub mod Exact
