pub mod SweepLaws
pub mod FibreLaws
pub mod Halving
pub mod Cases
