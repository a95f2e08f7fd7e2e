-- The LRU list: its walk, what operations leave at each write and at each word, and the redo.
pub mod Adding
pub mod AtRest
pub mod ListCompletions
pub mod ListFootprints
pub mod ListWrites
pub mod Lists
pub mod Walked
pub mod Walks
pub mod WordStops
pub mod WordTurns
pub mod WriteSteps
pub mod WriteWords
