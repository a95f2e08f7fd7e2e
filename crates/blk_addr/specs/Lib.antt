pub mod Kind
pub mod FileId
pub mod Bits
pub mod Claims
pub mod ClaimGroups
