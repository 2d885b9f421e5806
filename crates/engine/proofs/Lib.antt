pub mod Searching
pub mod Earliest
pub mod Turning
pub mod Keeping
pub mod Comparing
pub mod Agreement
