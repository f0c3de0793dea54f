pub mod Numbers
pub mod Told
pub mod ToldMending
pub mod ToldFindings
