pub mod Table
pub mod Report
pub mod Outcome
pub mod Seen
pub mod Mendings
pub mod Bench
pub mod inner
