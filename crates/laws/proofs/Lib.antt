pub mod Deciding
pub mod Testing
pub mod Lists
pub mod Lowering
pub mod Counting
pub mod Picking
pub mod Answering
