pub mod Coordinates
pub mod Ends
pub mod Joins
pub mod Parts
pub mod Sizes
pub mod Types
