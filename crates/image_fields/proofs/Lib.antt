pub mod FormedLaws
pub mod FewLaws
