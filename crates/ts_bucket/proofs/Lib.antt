pub mod Remainders
pub mod BucketLaws
pub mod SpanLaws
pub mod WindowLaws
pub mod WholeSpanLaws
pub mod RangeLaws
pub mod PositionLaws
pub mod TouchLaws
mod Computed
