mod Rows
pub mod Numbers
pub mod RoundTrip
pub mod Putting
pub mod Printed
pub mod Splitting
pub mod Digits
pub mod Decoding
pub mod WordTable
pub mod Lines
pub mod Ranged
pub mod ReadRanges
