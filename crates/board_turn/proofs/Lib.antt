pub mod Sums
pub mod Bits
pub mod Puts
pub mod Claims
pub mod Turns
pub mod Steps
pub mod Seats
