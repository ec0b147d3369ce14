pub mod OutcomeLaws
pub mod SlotLaws
