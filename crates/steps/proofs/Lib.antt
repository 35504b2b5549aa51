pub mod Stepping
pub mod Raising
mod Cases
