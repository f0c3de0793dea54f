pub mod ClosedUp
