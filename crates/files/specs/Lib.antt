pub mod Layout
pub mod Faults
pub mod Events
pub mod Reading
pub mod Day
