pub mod Chains
pub mod Reach
