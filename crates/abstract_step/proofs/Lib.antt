pub mod FlowOrder
pub mod Rows
pub mod StateOrder
pub mod StateSame
