pub mod Weighing
pub mod Raised
