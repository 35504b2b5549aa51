mod Sized
pub mod Limits
