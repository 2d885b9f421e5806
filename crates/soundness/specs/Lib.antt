pub mod Finds
pub mod Parts
pub mod Entries
