pub mod ChainFacts
pub mod LinkFacts
pub mod SearchFacts
mod KeyFacts
pub mod StateFacts
pub mod StoreFacts
pub mod StoreKept
pub mod RowMaking
pub mod ZipFacts
pub mod StableSorts
pub mod SameRows
pub mod SortedFacts
pub mod PlaceFacts
pub mod OrderedFacts
pub mod DigitFacts
pub mod LentFacts
pub mod LawFacts
mod StoredStates
mod ClosedRows
pub mod Showing
