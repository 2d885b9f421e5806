pub mod Call
pub mod Cases
pub mod Sequence
pub mod Woken
pub mod Demands
