pub mod Written
pub mod TypesWritten
pub mod Counted
pub mod Turning
pub mod Whole
