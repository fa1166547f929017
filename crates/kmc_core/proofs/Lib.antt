pub mod AnchorInstances
pub mod FirstFirings
pub mod GasNumbers
pub mod MergedEntries
pub mod RenewedEntries
pub mod Runs
pub mod TimesNeverFall
