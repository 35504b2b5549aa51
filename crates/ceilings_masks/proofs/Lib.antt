pub mod Comparing
pub mod Turning
