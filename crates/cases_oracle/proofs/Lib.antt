pub mod VerdictCases
pub mod CounterCases
pub mod RunCases
