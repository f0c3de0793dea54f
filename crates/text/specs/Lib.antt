pub mod Decimals
pub mod Words
pub mod Wrote
