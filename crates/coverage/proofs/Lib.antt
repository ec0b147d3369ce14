pub mod LogLaws
pub mod ModelLaws
pub mod StepLaws
pub mod ImageLaws
pub mod TellLaws
pub mod WholeLaws
pub mod TimeLaws
pub mod WorkedRows
