pub mod Samplings
pub mod Soundness
pub mod Species
pub mod Values
pub mod Views
