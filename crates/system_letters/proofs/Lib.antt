pub mod Tables
pub mod Classes
pub mod Mailed
