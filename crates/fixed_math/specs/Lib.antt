pub mod Logarithm
pub mod Exponential
pub mod Gap
pub mod DecimalLogarithm
pub mod WaitingTime
