pub mod Adding
pub mod Added
pub mod Grown
pub mod AddDemands
pub mod Bench
