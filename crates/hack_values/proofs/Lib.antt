pub mod KeyLaws
pub mod Rows
pub mod Digits
pub mod SameLaws
pub mod Listing
pub mod Knowns
pub mod Folds
pub mod ObjectRows
