pub mod Lined
pub mod Walk
