pub mod EntityRows
pub mod HeldParts
pub mod ListedVariants
mod NamesAbove
pub mod Patterns
pub mod ReadParts
mod RowIndexes
pub mod RowsApart
