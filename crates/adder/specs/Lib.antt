pub mod Table
pub mod Outcome
pub mod Seen
pub mod Additions
pub mod Bench
pub mod inner
