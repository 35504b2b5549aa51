pub mod Leading
pub mod Settling
