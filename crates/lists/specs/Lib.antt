pub mod Lists
pub mod Ready
