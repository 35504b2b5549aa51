pub mod Reading
pub mod Stacks
