pub mod Exceeding
pub mod Covering
