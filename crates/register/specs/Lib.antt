pub mod Lists
pub mod Registered
pub mod Plans
pub mod Areas
