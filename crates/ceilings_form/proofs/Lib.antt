pub mod Limited
pub mod Reading
pub mod Agreeing
pub mod Filling
pub mod Repeated
pub mod Ceilings
pub mod Checked
