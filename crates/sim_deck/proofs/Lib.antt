pub mod LongWords
pub mod SoundParts
pub mod SoundPlans
