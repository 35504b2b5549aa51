pub mod Answering
pub mod Laying
