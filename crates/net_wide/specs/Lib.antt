pub mod Combining
pub mod NetTables
pub mod NetLaws
pub mod Numbering
pub mod NetEnds
