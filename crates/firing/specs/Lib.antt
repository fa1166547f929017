pub mod Entities
pub mod Firing
pub mod Sides
pub mod Soundness
