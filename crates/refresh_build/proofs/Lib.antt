pub mod FittingLaws
pub mod JobLaws
