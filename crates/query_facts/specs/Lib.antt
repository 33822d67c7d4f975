pub mod Columns
pub mod Expected
pub mod Facts
pub mod Folds
pub mod Needs
pub mod Parts
