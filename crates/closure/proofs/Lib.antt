pub mod Answers
pub mod Opens
