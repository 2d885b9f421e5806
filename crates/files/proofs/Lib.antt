pub mod Verdicts
pub mod Same
pub mod Faultless
pub mod Sections
pub mod Cutting
