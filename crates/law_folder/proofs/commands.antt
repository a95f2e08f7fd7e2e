-- The changes of commands: creating, opening, accessing, removing, dooming.
pub mod Created
pub mod Creating
pub mod DoomWrites
pub mod DoomedChanges
pub mod DoomedObjects
pub mod Dooming
pub mod NewItems
pub mod Opening
pub mod Removing
pub mod TouchedStates
pub mod Touches
pub mod Unlinking
