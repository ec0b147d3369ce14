use Rattle.std.proofs.Common.{◌∙◌}
use Rattle.transcript.proofs.EscapeLaws.{front_sent, left_failed}
use Rattle.transcript.proofs.escapes.send_escaped.Goals as goal

pub loop-left-preserved : goal.loop-left-preserved
loop-left-preserved g c = record {
  some = front_sent _ _ _ _ _ _ c.loop-left.left.now c.loop-left.invariant.some _ c.in-Ok.len c.in-Ok.ensures.sent;
  counted = c.in-Ok.ensures.counted ∙ c.loop-left.invariant.counted;
}

pub returns-in-Err-clause-sent : goal.returns-in-Err-clause-sent
returns-in-Err-clause-sent g c = left_failed _ _ _ _ _ _ c.loop-left.left.now c.loop-left.invariant.some c.in-Err.ensures.sent
