-- What is kept of a walk, and what makes no difference to it.
pub mod FoundFrames
pub mod FrameLaw
pub mod Kept
pub mod LeavingOut
pub mod Loading
pub mod Loads
pub mod Shown
