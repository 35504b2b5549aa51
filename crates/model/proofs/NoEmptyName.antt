-- No empty name (document 02, (xi)): how binders and scopes lie, what holds, the invariant, each step, what is read, runs.
pub mod Stacks
pub mod Trails
pub mod Binders
pub mod Nesting
pub mod Held
pub mod Values
pub mod Matched
pub mod Parts
pub mod Processes
pub mod Steps
pub mod Reading
pub mod Kept
pub mod Numbers
pub mod Runs
pub mod Tests
