pub mod Joining
pub mod Putting
pub mod Same
