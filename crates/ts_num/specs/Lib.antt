pub mod Aggregates
pub mod Digits
pub mod Fractions
pub mod Texts
