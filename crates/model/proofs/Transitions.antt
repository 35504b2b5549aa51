-- The run as a function is the run as a relation (specs/Transitions.antt): names, patterns, branches and messages, steps, reasons for none, runs.
pub mod Exactly
pub mod Names
pub mod Equality
pub mod Patterns
pub mod Branches
pub mod Callees
pub mod Made
pub mod Given
pub mod Absent
pub mod Reasons
pub mod Idle
pub mod Runs
