pub mod BackFacts
pub mod LineFacts
pub mod ReadColumns
pub mod TextFacts
pub mod TextRecords
