pub mod Asking
pub mod Sharing
pub mod AskDemands
pub mod Bench
