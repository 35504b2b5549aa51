pub mod Heads
pub mod Branches
