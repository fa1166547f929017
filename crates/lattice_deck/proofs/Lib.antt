mod CellFacts
mod Displacements
mod FewTypes
mod Readings
mod RowCounts
mod SizesSound
mod SoundJoins
mod TypeWords
