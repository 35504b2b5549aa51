pub mod Going
pub mod Laying
