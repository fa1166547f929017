pub mod AdsorbateCounts
pub mod CountLemmas
pub mod SiteNames
