pub mod OrderLaws
pub mod Goals
pub mod DealLaws
pub mod ListLaws
