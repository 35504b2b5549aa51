pub mod Standing
pub mod Placed
