pub mod Pieces
pub mod Parts
pub mod Seats
pub mod Longest
pub mod Standing
pub mod Same
pub mod Distinct
