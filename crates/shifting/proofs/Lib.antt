mod Tabling
mod Standing
pub mod Along
mod Cores
mod Seeking
mod Deciding
pub mod Board
pub mod Same
