mod Bounds
mod CleanTexts
mod ClosedLines
pub mod LineLaws
mod NumberedLines
mod PassLaws
mod Rows
pub mod CountLaws
pub mod ChunkLaws
pub mod HistoryLaws
pub mod RowCounts
pub mod SpanLaws
pub mod RefreshCounts
pub mod CutLaws
pub mod TopLaws
pub mod MarkLaws
pub mod RefreshSteps
pub mod LiveCounts
pub mod TurnLaws
pub mod ScriptLaws
