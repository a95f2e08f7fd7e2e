pub mod Marks
pub mod Keys
pub mod Steps
pub mod Writing
pub mod Covering
pub mod Parts
pub mod EntryClauses
