-- Counters are numbered without gaps or collisions.
pub mod States
pub mod Letters
pub mod Counters
pub mod Choices
pub mod Within
