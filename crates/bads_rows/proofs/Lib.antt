pub mod BadRows
pub mod Walking
