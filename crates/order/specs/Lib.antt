pub mod Places
pub mod ComesBefore
pub mod Changes
pub mod Ranks
