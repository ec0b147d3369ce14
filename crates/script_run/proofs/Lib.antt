pub mod SessionLaws
pub mod Counting
pub mod LineLaws
pub mod Progress
pub mod ScriptLaws
pub mod RunLaws
pub mod WalkedAlone
