pub mod InPlace
pub mod Plain
pub mod CoreSets
