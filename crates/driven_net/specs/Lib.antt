pub mod NetTraces
pub mod Lags
pub mod Turns
pub mod Follows
