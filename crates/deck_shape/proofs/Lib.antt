mod BelowLines
pub mod BlockValues
mod Depths
mod FileForms
mod FirstKinds
mod InnermostBlocks
mod LineCounts
pub mod Maps
pub mod NameLists
mod OnceWords
mod OnceInBlocks
mod OpenBlocks
mod PassedLines
mod ReadBlocks
mod RisingBlocks
pub mod RisingKinds
mod Rows
mod WholeBlocks
mod WordFaults
mod WordRules
