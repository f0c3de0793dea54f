pub mod LaterLaws
pub mod JoinLaws
pub mod OldLaws
pub mod Told
pub mod Cases
