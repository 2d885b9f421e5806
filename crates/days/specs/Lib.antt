pub mod Calls
pub mod Step
pub mod Replay
pub mod Telling
