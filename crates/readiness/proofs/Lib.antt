mod Reseating
pub mod Freeing
mod Turning
mod Sizing
mod Sitting
pub mod Model
pub mod Same
pub mod Keeping
