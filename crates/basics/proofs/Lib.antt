pub mod Bools
pub mod Searches
pub mod Tables
pub mod Counts
pub mod Sums
pub mod Pins
pub mod LastLaws
