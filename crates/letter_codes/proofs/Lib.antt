pub mod Capped
pub mod Entries
pub mod Filling
pub mod Order
pub mod Same
pub mod Starts
