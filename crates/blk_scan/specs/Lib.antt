pub mod Bare
pub mod Clauses
pub mod Faults
pub mod Ordering
pub mod Outcomes
pub mod Packing
pub mod Scans
