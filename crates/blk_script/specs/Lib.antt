pub mod Faults
pub mod Fields
pub mod Line
pub mod Words
pub mod Spelling
pub mod Reply
