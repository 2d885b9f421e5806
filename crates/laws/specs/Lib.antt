pub mod Decides
pub mod Lowest
pub mod Lists
pub mod Counting
pub mod Pick
pub mod Answering
