pub mod PlaceFacts
pub mod WindowFacts
pub mod ReadFacts
pub mod RangeFacts
pub mod EndFacts
pub mod HeaderFacts
pub mod TraceFacts
