pub mod Arguments
pub mod Chains
pub mod Coding
pub mod Leaves
pub mod Subpatterns
pub mod Valued
