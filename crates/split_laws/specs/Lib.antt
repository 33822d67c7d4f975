pub mod Lines
pub mod Merging
pub mod SplitTables
pub mod WholeRuns
