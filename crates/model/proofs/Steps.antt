-- Each kind of step keeps the invariant and follows a rule.
pub mod Letters
pub mod Branch
pub mod Quiet
pub mod Receive
pub mod Send
pub mod Spawn
