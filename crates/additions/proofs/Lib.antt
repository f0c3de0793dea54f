pub mod Turns
pub mod Settling
pub mod Added
pub mod Pinned
pub mod Grown
pub mod Orders
pub mod AddDemands
pub mod Bench
