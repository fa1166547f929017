pub mod EarliestFaults
pub mod FaultLists
pub mod NameFaults
pub mod Powers
pub mod Ranges
pub mod Repeats
pub mod Values
