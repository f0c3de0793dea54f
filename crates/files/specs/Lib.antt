-- What the contracts of the files cite.
pub mod Starts
