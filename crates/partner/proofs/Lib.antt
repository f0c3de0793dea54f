pub mod Joined
pub mod Asked
pub mod Lowered
pub mod Sharing
pub mod AskDemands
pub mod Bench
