use Rattle.std.proofs.Common.{sym, ◌∙◌, rules}
use Rattle.ts_bucket.specs.Bucket.{IsWidth}
use Rattle.hier_agg.proofs.Alone.{whole_roll_ups_are_the_lower_answer}
use Rattle.ts_sessions.proofs.queries.roll_up.Goals as goal

pub returns-then-takes_all : goal.returns-then-takes_all
returns-then-takes_all c =
    let lower = c.args.def.now.fold in
    let plan = c.args.plan.now in
    let wide : IsWidth lower.width = search rules in
    sym (whole_roll_ups_are_the_lower_answer lower plan c.args.answer wide (sym c.takes_all.ensures ∙ c.if-takes_all.true) c.requires.rows c.requires.stale)
