pub mod PlaceLemmas
mod SumLemmas
pub mod MapLemmas
