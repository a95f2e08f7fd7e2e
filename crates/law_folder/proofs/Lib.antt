pub mod lists
pub mod chains
pub mod claims
pub mod updates
pub mod walks
pub mod states
pub mod commands
pub mod examples
