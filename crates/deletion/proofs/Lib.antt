mod Ending
pub mod Model
pub mod Same
pub mod Keeping
