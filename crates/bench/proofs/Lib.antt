pub mod Texts
pub mod Days
