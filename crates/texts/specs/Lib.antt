pub mod Put
pub mod Joined
pub mod HandOver
