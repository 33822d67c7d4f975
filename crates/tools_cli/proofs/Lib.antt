pub mod WordFacts
pub mod EndFacts
pub mod LineFacts
pub mod SplitFacts
pub mod RangeFacts
