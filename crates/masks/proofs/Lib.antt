pub mod Bits
pub mod Operators
pub mod Adding
pub mod Next
