pub mod DemoLaws
mod RunLaws
mod SumLaws
