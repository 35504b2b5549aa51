pub mod Putting
pub mod Digits
pub mod Allowed
pub mod Told
pub mod Filling
pub mod Filled
