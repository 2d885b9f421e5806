pub mod List
pub mod Longest
pub mod Faults
pub mod Promise
pub mod Progress
