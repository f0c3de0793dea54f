pub mod Outcome
pub mod Settled
pub mod Seen
pub mod Sides
