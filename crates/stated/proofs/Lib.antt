pub mod Dispatch
pub mod Giving
