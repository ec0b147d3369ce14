pub mod ActLaws
pub mod StoreLaws
pub mod EventLaws
pub mod TimelineLaws
pub mod LedgerLaws
