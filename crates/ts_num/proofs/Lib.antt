pub mod DigitLaws
pub mod Divisors
pub mod EndLaws
pub mod LowestTerms
