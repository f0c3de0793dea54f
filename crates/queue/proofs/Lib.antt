pub mod QueueLaws
pub mod LinedUp
pub mod Columns
pub mod Closing
pub mod Shortening
