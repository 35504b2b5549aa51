pub mod Lightest
pub mod Filling
pub mod Items
