pub mod KeyFacts
pub mod PieceFacts
pub mod SetFacts
