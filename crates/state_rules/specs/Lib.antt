pub mod Heads
pub mod Within
