pub mod ContentFacts
pub mod CutFacts
pub mod HeadFacts
pub mod RowFacts
