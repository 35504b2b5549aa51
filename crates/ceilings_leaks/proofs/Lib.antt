pub mod Leaking
