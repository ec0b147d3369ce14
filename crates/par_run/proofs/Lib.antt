pub mod ReplyLaws
pub mod CrewLaws
pub mod OutputLaws
pub mod RunLaws
pub mod NameLaws
pub mod ScriptLaws
pub mod SoundLaws
pub mod AsciiLaws
