pub mod Answered
pub mod Found
pub mod HeadWords
pub mod Lines
pub mod Listed
