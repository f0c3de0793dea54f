pub mod Marking
pub mod Rides
pub mod Spots
pub mod Standing
