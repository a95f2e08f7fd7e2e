pub mod FileIds
pub mod Holding
pub mod Names
pub mod Numbers
pub mod Spelling
