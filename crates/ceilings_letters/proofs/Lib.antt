pub mod Holding
pub mod Sending
