pub mod Laws
pub mod Leaves
pub mod Named
pub mod Reached
pub mod Reading
pub mod Writing
pub mod Levels
