-- The groups between the places of the two ends are those within the span.
use Rattle.std.proofs.Common.{◌∙◌, ◌++◌, ap}
use Rattle.std.proofs.lemmas.Result.{IfOk-weaker}
use Rattle.mat_rows.proofs.PlaceLaws.{between_parts}
use Rattle.mat_rows.proofs.making.keep_within.Goals as goal

pub returns : goal.returns
returns c =
    let p = c.places-start.ensures in
    IfOk-weaker c.keep.result _ _ (λ _ e. e ∙ ap (λ xs. c.args.made.now ++ xs) (between_parts c.args.span c.args.groups.now.items c.places-start.result.0 c.places-start.result.1 p.order p.start p.end p.start_parts p.end_parts)) c.keep.ensures
