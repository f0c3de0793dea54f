pub mod Sheets
pub mod Reads
pub mod Typed
pub mod Entering
pub mod Keeping
pub mod Checks
pub mod Adding
pub mod inner
