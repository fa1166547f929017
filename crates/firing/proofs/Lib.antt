pub mod EachEntity
pub mod EntitySites
pub mod GivenPairs
pub mod Laws
pub mod Placed
pub mod Progress
pub mod Wants
