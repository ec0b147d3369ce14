use Rattle.std.proofs.Common.{refl}
use Rattle.hier_agg.proofs.Widening.{apart_whole, widened}
use Rattle.hier_agg.proofs.laws.upper_answers_are_rolled_up.Goals as goal

pub returns : goal.returns
returns c = λ lower plan shown wide whole. record { rows = refl; stale = widened plan.width wide shown.stale (apart_whole lower.width shown.stale whole) }
