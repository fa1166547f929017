pub mod Cells
pub mod Default
pub mod Faultless
pub mod Naming
pub mod Periodic
