pub mod ListedRecords
pub mod ListedLines
pub mod PrintedRanges
pub mod PresentRanges
