-- What a write took is gone from the rest.
use Rattle.std.proofs.Common.{◌∙◌}
use Rattle.ts_io.proofs.Writing.{AppendsSome-more}
use Rattle.ts_io.proofs.whole.write_whole.Goals as goal

pub loop-rest-preserved : goal.loop-rest-preserved
loop-rest-preserved g c = record {
  part = AppendsSome-more _ _ _ _ c.loop-rest.rest.now c.in-Bytes.n c.loop-rest.invariant.part c.in-Bytes.ensures.bytes.2;
  counted = c.in-Bytes.ensures.counted ∙ c.loop-rest.invariant.counted;
}
