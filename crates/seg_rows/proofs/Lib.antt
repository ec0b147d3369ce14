pub mod DeathLaws
pub mod HullLaws
pub mod LifeLaws
pub mod StepLaws
pub mod VersionLaws
