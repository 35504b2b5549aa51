pub mod Gathered
pub mod Members
pub mod Names
pub mod Operands
pub mod Starts
