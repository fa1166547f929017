pub mod Code
pub mod Fitting
pub mod Listing
pub mod Match
pub mod Placement
pub mod Tuples
pub mod Walking
