pub mod Telling
pub mod Running
