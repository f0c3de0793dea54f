pub mod FirstLaws
pub mod First
pub mod Passed
pub mod Chain
pub mod Pieces
pub mod EndLaws
pub mod Cases
