pub mod KeptBooks
pub mod Sums
