pub mod ToldEdges
pub mod Handled
pub mod Marking
pub mod Guarding
