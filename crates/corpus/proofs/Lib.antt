pub mod Digesting
pub mod Marking
pub mod Lining
