pub mod Keeping
pub mod Reports
pub mod Mended
pub mod Pinned
pub mod Orders
pub mod Sound
pub mod MendDemands
pub mod Bench
