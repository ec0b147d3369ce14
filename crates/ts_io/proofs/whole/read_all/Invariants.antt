-- The bytes held are all that were read, the end isn't reported, and no fault was counted.
use Rattle.std.proofs.Common.{◌≡◌, false, ◌+◌, ◌-◌, ◌≤◌, length, vec_len}
use Rattle.std.specs.Io.KnownBytes.{Consumes}
use Rattle.ts_io.specs.declared.limits.TheConstants.{INPUT_LIMIT}
use Rattle.ts_io.proofs.whole.read_all.Given as goal

abbrev pub invariant-loop-piece : goal.invariant-loop-piece
invariant-loop-piece g l = record {
  taken : Consumes (g.S.Source.left l.initial.source) (g.S.Source.left l.source) l.out.items;
  within : length l.out.items ≤ INPUT_LIMIT + 1;
  untold : g.S.Source.ended l.source ≡ false;
  counted : g.S.Source.faults l.source ≡ g.S.Source.faults l.initial.source;
}

abbrev pub decreases-loop-piece : goal.decreases-loop-piece
decreases-loop-piece g l = INPUT_LIMIT + 1 - vec_len l.out
