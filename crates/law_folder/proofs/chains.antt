-- The chains of the table: records linked and unlinked, searches, and how long a chain is.
pub mod ChainEnds
pub mod ChainLengths
pub mod ChainLinks
pub mod ChainSizes
pub mod ChainWords
pub mod Chains
pub mod Searches
pub mod ShortChains
