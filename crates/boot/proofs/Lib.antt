pub mod Refusing
mod Filling
mod Advancing
pub mod Same
pub mod Creating
pub mod Keeping
pub mod Model
