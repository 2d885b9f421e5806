pub mod Seats
pub mod Search
pub mod Turns
pub mod Keep
pub mod Difference
pub mod Classes
