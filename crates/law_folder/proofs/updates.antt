-- Single writes: updates of nodes and records under a checksum 0, and words of the index.
pub mod Counting
pub mod IndexWords
pub mod NodeRecords
pub mod Nodes
pub mod Prefixes
pub mod Records
pub mod Sealing
pub mod StillShown
pub mod Updates
pub mod WellFormed
