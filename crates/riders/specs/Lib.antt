pub mod Index
pub mod Outcome
pub mod Computed
pub mod Seen
pub mod Bench
pub mod inner
