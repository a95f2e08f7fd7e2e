pub mod Held
pub mod Tags
pub mod Slots
pub mod Pages
pub mod PageClauses
pub mod Reading
