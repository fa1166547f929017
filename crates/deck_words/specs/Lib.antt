pub mod Faults
pub mod Keywords
pub mod Needs
pub mod Tables
