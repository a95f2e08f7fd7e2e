mod HasNames
mod LeastNames
mod NameTexts
mod Numerals
