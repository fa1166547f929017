pub mod Runs
pub mod Sampler
pub mod Samples
pub mod Stops
