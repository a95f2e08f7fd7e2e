pub mod Findings
pub mod Inspecting
pub mod Texts
