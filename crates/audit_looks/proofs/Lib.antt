pub mod ByteLaws
pub mod NumberLaws
mod WordLaws
mod HeadLaws
mod QuietLaws
pub mod TextLaws
pub mod ReplayLaws
pub mod LookLaws
