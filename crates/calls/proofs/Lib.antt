pub mod Calling
pub mod Checking
pub mod Ruling
mod Since
pub mod Demands
