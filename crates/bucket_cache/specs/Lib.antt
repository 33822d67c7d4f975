pub mod Slices
pub mod Buckets
pub mod FlatBuckets
pub mod Touches
pub mod Bounds
pub mod Caches
pub mod LendingRows
pub mod LendingCaches
