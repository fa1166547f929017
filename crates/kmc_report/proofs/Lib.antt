pub mod DueAtEvents
pub mod DueBefore
pub mod GivenSamples
pub mod RunSamples
pub mod SampleNumbers
