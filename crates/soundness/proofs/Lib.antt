mod Finding
mod Holding
mod Entering
mod Sitting
mod Telling
pub mod Naming
