pub mod Masks
pub mod Sums
pub mod Views
pub mod Rule
pub mod Plays
pub mod Shown
pub mod Refusals
