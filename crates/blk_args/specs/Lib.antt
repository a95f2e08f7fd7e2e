pub mod Kinds
pub mod Apart
pub mod Numbers
pub mod Inspected
pub mod Tasks
pub mod Words
pub mod Parsing
