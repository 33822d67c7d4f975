pub mod QueueFacts
pub mod Bounds
pub mod FollowingFacts
pub mod TextFacts
pub mod Pieces
pub mod WrittenFacts
pub mod DigitFacts
pub mod ReadBackFacts
