pub mod ByCode
pub mod Trajectory
