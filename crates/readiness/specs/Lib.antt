pub mod Wake
pub mod Block
pub mod Seats
