pub mod Digits
pub mod Lengths
pub mod Plain
pub mod Writing
