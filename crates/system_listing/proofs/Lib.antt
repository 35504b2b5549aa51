pub mod Putting
pub mod Whole
