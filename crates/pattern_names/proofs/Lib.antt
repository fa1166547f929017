pub mod Members
pub mod WantedRows
pub mod WholeSides
