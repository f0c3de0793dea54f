pub mod Writing
pub mod Lengths
pub mod Listing
