pub mod Copying
pub mod Scattering
pub mod Apart
pub mod Choosing
pub mod Pinned
pub mod Noting
pub mod Leaving
