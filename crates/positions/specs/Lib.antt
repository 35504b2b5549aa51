pub mod Positions
pub mod Branches
