pub mod Taking
pub mod ByResults
pub mod Giving
pub mod Joining
pub mod Queued
