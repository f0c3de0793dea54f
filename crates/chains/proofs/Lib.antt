pub mod Walks
pub mod MoveLaws
