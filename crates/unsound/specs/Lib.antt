pub mod Dump
pub mod Judge
