pub mod ChainLaws
pub mod Sweep
pub mod Steps
