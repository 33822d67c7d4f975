pub mod AfterEvents
pub mod EnclosedTables
pub mod Holding
pub mod Parts
pub mod Reading
