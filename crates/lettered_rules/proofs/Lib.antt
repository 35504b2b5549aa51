pub mod Letters
mod Unasked
mod Turns
