pub mod LogarithmLemmas
pub mod DecimalLemmas
pub mod ExponentialLemmas
pub mod TimeLemmas
mod Examples
