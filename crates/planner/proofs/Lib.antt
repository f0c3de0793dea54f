pub mod Accepting
pub mod Judging
pub mod Pinned
pub mod Settling
pub mod Among
pub mod Demands
pub mod Sides
