pub mod Changes
pub mod Numbers
pub mod Parts
pub mod Soundness
pub mod Steps
pub mod Views
