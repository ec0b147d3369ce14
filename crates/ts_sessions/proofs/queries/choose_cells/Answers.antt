-- The answer with cells chosen is the roll-up.
use Rattle.std.proofs.Common.{List, ap, map, sym, ◌∙◌, rules}
use Rattle.ts_num.specs.declared.values.Datum.{Datum}
use Rattle.ts_bucket.specs.Bucket.{IsWidth}
use Rattle.ts_model.specs.declared.queries.Answer.{Answer}
use Rattle.ts_model.specs.Chosen.{chosen_cells}
use Rattle.hier_agg.proofs.Choosing.{roll_ups_of_groups_choose_cells}
use Rattle.ts_sessions.proofs.queries.choose_cells.Goals as goal

pub returns-in-Ok : goal.returns-in-Ok
returns-in-Ok c =
    let lower = c.args.def.now.fold in
    let plan = c.args.plan.now in
    let answer = c.args.answer in
    let wide : IsWidth lower.width = search rules in
    let made : List (List Datum) → Answer = λ found. record { rows = found; stale = answer.stale } in
    ap made (c.in-Ok.ensures.chosen ∙ ap (λ places. map (chosen_cells places) answer.rows) c.in_ok-places.ensures.places)
    ∙ sym (roll_ups_of_groups_choose_cells lower plan answer wide c.requires.groups c.requires.fits.rows c.requires.fits.stale)
