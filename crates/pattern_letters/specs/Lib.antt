pub mod Picked
pub mod Tables
