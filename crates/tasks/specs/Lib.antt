pub mod Table
pub mod Named
pub mod Create
