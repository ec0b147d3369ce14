pub mod StepLaws
pub mod PlaceLaws
pub mod ImageLaws
