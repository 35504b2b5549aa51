pub mod Cleared
pub mod Rooms
