pub mod Begun
pub mod Letters
pub mod Stretching
pub mod Ranges
pub mod Table
