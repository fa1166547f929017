pub mod ByCode
pub mod Filing
pub mod LeadTree
pub mod Memory
pub mod Queue
pub mod Renewal
pub mod Rooms
