pub mod Notes
pub mod Coverage
pub mod Laws
