pub mod TellWalks
pub mod TellDeeds
pub mod TellViews
pub mod TellStatements
pub mod FittingLaws
pub mod TellQueues
pub mod TellLines
