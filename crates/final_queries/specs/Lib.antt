pub mod GroupTable
pub mod Finals
pub mod FinalLaws
pub mod Joining
pub mod Ranks
pub mod TopRows
pub mod Grouped
