mod Gathering
mod Spelling
mod Lowest
mod Following
mod Marking
mod Sweeping
pub mod Same
pub mod Bridge
