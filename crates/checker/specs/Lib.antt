pub mod Rules
pub mod Sound
pub mod Checked
pub mod Seen
pub mod Bench
pub mod inner
