pub mod SplitLaws
pub mod Splits
