pub mod Hashing
pub mod Lends
pub mod Writes
