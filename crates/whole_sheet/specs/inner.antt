pub mod Board
pub mod Choices
pub mod Tables
