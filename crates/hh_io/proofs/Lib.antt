pub mod Certain
pub mod Fronts
pub mod Taking
