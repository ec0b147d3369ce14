-- A source in memory hasn't reported its end at first.
use Rattle.std.proofs.Common.{Some, ap}
use Rattle.ts_io.specs.MemSource.{Supply}
use Rattle.statement_tests.proofs.inputs.lines.start.Goals as goal

pub returns-clause-follows : goal.returns-clause-follows
returns-clause-follows c = c.in_ok-new.ensures.follows _ (Some c.new.result.left) (ap (λ (s : Supply). s.ended) c.new.ensures.made)
