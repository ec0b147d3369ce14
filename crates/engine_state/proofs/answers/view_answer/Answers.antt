use Rattle.std.proofs.Common.{◌≡◌, subst, ℤ, Option}
use Rattle.std.proofs.lemmas.Result.{MatchResult-from_err}
use Rattle.ts_schema.specs.Counts.{raised_by, RaisedUpTo}
use Rattle.engine_state.specs.Shown.{view_reads}
use Rattle.engine_state.proofs.answers.view_answer.Goals as goal

pub returns-in_err-shown-clause-read : goal.returns-in_err-shown-clause-read
returns-in_err-shown-clause-read g c =
    let def = c.args.def.now in
    let table = c.args.rows.now.table.now in
    let read : RaisedUpTo (view_reads def c.args.view.now.mark c.args.starts table) c.args.steps.now c.aggregate_rows.new.steps =
    subst (λ (m : Option ℤ). RaisedUpTo (view_reads def m c.args.starts table) c.args.steps.now c.aggregate_rows.new.steps) c.mark-mark.ensures.mark c.in_err-shown.ensures.read in
    MatchResult-from_err c.from_residual-in_err-shown.result
    (λ _. c.aggregate_rows.new.steps ≡ raised_by (view_reads def c.args.view.now.mark c.args.starts table) c.args.steps.now)
    (λ _. RaisedUpTo (view_reads def c.args.view.now.mark c.args.starts table) c.args.steps.now c.aggregate_rows.new.steps)
    c.from_residual-in_err-shown.ensures.0 (λ _. read)

pub returns-clause-read : goal.returns-clause-read
returns-clause-read g c =
    let def = c.args.def.now in
    let table = c.args.rows.now.table.now in
    subst (λ (m : Option ℤ). c.aggregate_rows.new.steps ≡ raised_by (view_reads def m c.args.starts table) c.args.steps.now) c.mark-mark.ensures.mark c.in_ok-shown.ensures.read
