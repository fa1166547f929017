pub mod Sides
pub mod Species
pub mod Types
