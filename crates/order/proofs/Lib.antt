pub mod Placing
pub mod Standing
pub mod MovingUp
pub mod Waking
pub mod Ranking
pub mod Joining
pub mod Leaving
