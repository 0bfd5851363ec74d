pub mod Bytes
pub mod Fronts
pub mod Pieces
pub mod Shape
pub mod Spaced
pub mod Spelling
pub mod Strings
pub mod Tokens
