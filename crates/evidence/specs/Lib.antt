pub mod Whole
pub mod Ranges
