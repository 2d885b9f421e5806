pub mod Text
pub mod Line
