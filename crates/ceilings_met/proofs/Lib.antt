pub mod Filled
pub mod Meeting
pub mod Start
pub mod Sums
