pub mod Amounts
pub mod Pieces
pub mod Network
pub mod Laws
pub mod Traces
pub mod TraceLaws
