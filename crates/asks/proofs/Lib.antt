pub mod Asking
pub mod Ranges
pub mod Rows
