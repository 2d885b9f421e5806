pub mod Mask
pub mod Faults
pub mod Promise
pub mod Progress
