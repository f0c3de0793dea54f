pub mod Entries
pub mod Entered
pub mod Lines
pub mod Faults
pub mod Messages
pub mod Pair
pub mod inner
