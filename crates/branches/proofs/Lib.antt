pub mod Codes
pub mod Told
pub mod Walk
