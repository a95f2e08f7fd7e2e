pub mod Needs
pub mod Variables
