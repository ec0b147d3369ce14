pub mod FitLaws
pub mod HistoryLaws
pub mod OrderLaws
pub mod TableLaws
