pub mod RunLaws
pub mod PartLaws
