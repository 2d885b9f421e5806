pub mod Tally
pub mod Text
