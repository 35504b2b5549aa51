pub mod Extending
pub mod Values
