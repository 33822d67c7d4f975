pub mod BodyReading
pub mod SoundOps
pub mod SoundMade
pub mod Folds
pub mod SoundPlan
pub mod OneFault
pub mod SameUses
