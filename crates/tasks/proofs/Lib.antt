pub mod Settling
pub mod Model
pub mod Same
pub mod Keeping
pub mod Naming
