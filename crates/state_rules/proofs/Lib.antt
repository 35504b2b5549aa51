pub mod Branches
pub mod Letters
mod Within
mod Rooms
mod Sends
mod Done
