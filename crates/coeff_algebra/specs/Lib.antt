pub mod Elements
pub mod Maps
pub mod WrappingModel
pub mod MaxPlusModel
pub mod WrappingLaws
pub mod MaxPlusLaws
