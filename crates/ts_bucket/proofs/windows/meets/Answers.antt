-- The ends reach each other if and only if a number is in both.
use Rattle.std.proofs.Common.{◌≡◌, true, arith}
use Rattle.std.proofs.lemmas.Int.{ints}
use Rattle.ts_bucket.specs.Spans.{overlaps}
use Rattle.ts_bucket.proofs.SpanLaws.{shared_time, overlaps-from_shared}
use Rattle.ts_bucket.proofs.windows.meets.Goals as goal

pub returns-then-s-h-clause-shared : goal.returns-then-s-h-clause-shared
returns-then-s-h-clause-shared c = (
  (λ t. shared_time c.args.h c.args.s (grind (arith, ints)) (grind (arith, ints)) (grind (arith, ints)) (grind (arith, ints))),
  (λ shared. let e : overlaps c.args.h c.args.s ≡ true = overlaps-from_shared c.args.h c.args.s shared in grind (arith, ints)),
)
