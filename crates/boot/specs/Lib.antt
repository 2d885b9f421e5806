pub mod Load
pub mod Creating
pub mod Loading
