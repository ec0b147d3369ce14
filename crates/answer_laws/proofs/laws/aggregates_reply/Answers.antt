use Rattle.std.proofs.Common.{refl}
use Rattle.answer_laws.proofs.laws.aggregates_reply.Goals as goal
use Rattle.ts_model.specs.declared.queries.Query.TheVariants.{Aggregate}
use Rattle.ts_model.specs.Roster.{roster}
use Rattle.ts_sessions.specs.Places.{queue_count}
use Rattle.ts_sessions.specs.Step.{answers, plan_of}

pub returns : goal.returns
returns c = λ p bytes n starts h.
    let plan = plan_of (roster h) (Aggregate n starts) in
    record { turn = answers p h plan; ends_so = refl; queue = queue_count p.block; min = plan.min; says = refl }
