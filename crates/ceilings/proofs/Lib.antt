pub mod Ahead
pub mod Cells
pub mod Filling
pub mod Begun
