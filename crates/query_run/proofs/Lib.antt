pub mod QueryEnds
mod PlanEnds
mod BoundsEnds
pub mod MadePackets
mod Keeping
mod Seen
pub mod ViewTexts
mod Viewing
mod Driving
