pub mod Adsorbates
pub mod History
pub mod Procstat
pub mod Shown
pub mod Specnum
pub mod Summary
pub mod Words
