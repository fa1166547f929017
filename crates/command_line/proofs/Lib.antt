pub mod OptionReads
pub mod Numbers
pub mod Modes
pub mod Rows
