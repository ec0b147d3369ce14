-- A call that fails doesn't report the end.
use Rattle.std.proofs.Common.{ap, ◌∙◌}
use Rattle.ts_io.specs.MemSource.{Supply}
use Rattle.ts_io.proofs.mem_sources.MemSourceSource.read.Goals as goal

pub returns-then-count_call-clause-ended : goal.returns-then-count_call-clause-ended
returns-then-count_call-clause-ended c = ap (λ (s : Supply). s.ended) c.self.view_is ∙ c.requires.untold
