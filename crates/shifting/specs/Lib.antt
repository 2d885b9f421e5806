pub mod Board
pub mod Tables
pub mod Arriving
pub mod Filling
pub mod Shifts
pub mod Picking
pub mod Rule
