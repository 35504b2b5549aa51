pub mod States
pub mod Gather
pub mod Adding
pub mod Stepped
pub mod Entries
pub mod Within
