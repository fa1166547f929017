pub mod Ball
pub mod Config
pub mod Fault
pub mod Lattice
pub mod Shown
pub mod SiteList
