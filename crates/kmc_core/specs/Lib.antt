pub mod DeckSystem
pub mod Firing
pub mod ListedProcess
pub mod Run
pub mod Times
