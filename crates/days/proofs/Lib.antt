pub mod Calling
pub mod Stepping
pub mod Printing
pub mod Same
pub mod Days
pub mod Telling
