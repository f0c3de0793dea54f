pub mod PlaceLaws
pub mod RiderLaws
pub mod Partial
pub mod RisingLaws
pub mod Parts
pub mod TwoFiles
pub mod TurnLaws
pub mod Bench
