pub mod Edges
pub mod Lists
pub mod Names
pub mod Numbers
pub mod Readings
pub mod Rows
