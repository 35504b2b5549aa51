pub mod Opens
pub mod Cases
pub mod Controls
pub mod NameCases
