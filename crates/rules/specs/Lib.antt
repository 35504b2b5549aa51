pub mod Listed
pub mod Added
pub mod Derived
pub mod Within
