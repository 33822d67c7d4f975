pub mod Joined
pub mod LineFacts
