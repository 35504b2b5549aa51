mod Binding
mod Scoping
pub mod Found
