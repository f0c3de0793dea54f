pub mod Tools
pub mod Lasts
