use Rattle.std.proofs.Common.{◌≡◌, take}
use Rattle.ts_model.specs.Saved.{last_hi}
use Rattle.engine_state.proofs.image_tables.last_end.Given as goal

abbrev pub invariant-loop-last : goal.invariant-loop-last
invariant-loop-last l = l.end ≡ last_hi (take l.last-index l.lasts)
