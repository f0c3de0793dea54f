pub mod Colours
pub mod Loads
pub mod Loops
pub mod Choice
pub mod Area
pub mod Desk
pub mod Sheeted
