mod OutcomeLaws
mod LogLaws
mod OpeningLaws
mod ParallelLaws
mod DemoLaws
mod PrintLaws
mod CheckpointLaws
mod AuditLaws
