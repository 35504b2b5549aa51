pub mod Order
pub mod Scratch
