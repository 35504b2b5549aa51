pub mod Halving
pub mod Rising
pub mod Facts
pub mod Told
pub mod Reaching
