-- All demonstrations read the same number of stored rows, and no reply to one is a FAULT.
use Rattle.std.proofs.Common.{◌≡◌, ℕ, false, ap}
use Rattle.ts_schema.specs.Counts.{raised_by}
use Rattle.demo_laws.proofs.ScriptLaws.{demonstrations_read_the_same}
use Rattle.demo_run.specs.Demos.{is_refused_demo, reads_of_demo}

pub reads_alike : (number : ℕ) → reads_of_demo number ≡ 39600
reads_alike number = ap (λ read. raised_by read 0) (demonstrations_read_the_same number).reads

pub never_refused : (number : ℕ) → is_refused_demo number ≡ false
never_refused number = (demonstrations_read_the_same number).fault
