pub mod Draws
pub mod Counting
pub mod Generator
pub mod Laws
