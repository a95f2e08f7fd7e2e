pub mod Linking
pub mod Unlinking
pub mod Finding
pub mod Mapping
pub mod Examples
pub mod LinkExamples
pub mod ChainClauses
