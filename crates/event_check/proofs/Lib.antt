pub mod Places
pub mod CheckLaws
pub mod Near
pub mod RosterSteps
