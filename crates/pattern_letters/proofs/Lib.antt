pub mod Lessening
mod Arguments
mod Passing
