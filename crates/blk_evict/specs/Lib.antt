pub mod NameBuffer
pub mod Looking
pub mod RoomLaws
pub mod RoomPrinting
pub mod EvictingGroups
pub mod ListPlaces
pub mod EvictionCalls
