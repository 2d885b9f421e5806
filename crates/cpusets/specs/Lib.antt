pub mod Answers
pub mod Limit
pub mod Characters
pub mod Faults
pub mod Reading
pub mod Writing
