pub mod Mending
pub mod Mended
pub mod MendDemands
pub mod Bench
