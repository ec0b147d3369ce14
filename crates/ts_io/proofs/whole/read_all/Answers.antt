-- Each piece follows what was taken before, and in the end one byte beyond the limit was taken.
use Rattle.std.proofs.Common.{ℕ, arith, rules, ◌∙◌, length, length-take, ap}
use Rattle.std.proofs.lemmas.Bool.{ne_eqb}
use Rattle.ts_io.specs.declared.limits.TheConstants.{INPUT_LIMIT}
use Rattle.ts_io.proofs.Reading.{Consumes-grown, Passes-cut}
use Rattle.ts_io.proofs.whole.read_all.Goals as goal

pub returns-clause-read : goal.returns-clause-read
returns-clause-read g c = rw c.truncate.ensures.items (Passes-cut INPUT_LIMIT _ _ c.loop-piece.out.items c.loop-piece.invariant.taken (search rules))

pub loop-piece-preserved : goal.loop-piece-preserved
loop-piece-preserved g c =
    let held = c.reserve.ensures.items in
    let filled = c.in-Bytes.ensures.filled in
    record {
      taken = Consumes-grown _ _ _ c.reserve.new.self.items c.read_into.new.out.items (rw held c.loop-piece.invariant.taken) filled.0 filled.1;
      within = omega (arith, c.in-Bytes.ensures.within, length-take {A = ℕ}, ap length held);
      untold = c.in-Bytes.ensures.ended ∙ ne_eqb c.in-Bytes.field-0 0 c.in-Bytes.field-0-test.1;
      counted = c.in-Bytes.ensures.counted ∙ c.loop-piece.invariant.counted;
    }
