pub mod Checks
pub mod Whole
