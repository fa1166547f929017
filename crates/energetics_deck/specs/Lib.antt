pub mod Clusters
pub mod Parts
pub mod Shares
pub mod Soundness
pub mod Views
