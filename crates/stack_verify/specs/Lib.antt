pub mod Effects
pub mod Kept
pub mod Left
pub mod Runs
pub mod Verified
pub mod Walk
