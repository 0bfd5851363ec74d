mod Finding
pub mod Names
pub mod Rows
