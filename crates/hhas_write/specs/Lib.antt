pub mod Tables
pub mod Scope
pub mod Items
