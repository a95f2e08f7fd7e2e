-- Used blocks and numbers: what lies inside and outside a footprint, allocations, and files that grow.
pub mod Allocations
pub mod BlockBytes
pub mod ByteChanges
pub mod ClaimLists
pub mod Covers
pub mod Files
pub mod Growing
pub mod Inside
pub mod NodeWords
pub mod Outside
pub mod Owner
