pub mod Visits
pub mod Ending
pub mod Resting
