pub mod Refusals
pub mod Table
pub mod Given
pub mod Ends
pub mod Bench
pub mod inner
