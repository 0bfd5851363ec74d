pub mod EdgeLists
pub mod BlockStarts
pub mod Marks
pub mod Guarded
