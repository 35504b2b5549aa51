pub mod Mailed
