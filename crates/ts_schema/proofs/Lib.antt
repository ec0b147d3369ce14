pub mod Cases
pub mod OrderLaws
mod PartLaws
mod ValueLaws
