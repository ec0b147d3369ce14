mod BelowLaws
pub mod StepLaws
pub mod RangeLaws
pub mod FeedLaws
mod LastLaws
