-- The groups between the places of the two ends are those within the span.
use Rattle.std.proofs.Common.{◌∙◌, ap}
use Rattle.std.proofs.lemmas.Result.{IfOk-weaker}
use Rattle.mat_rows.specs.Replacing.{within}
use Rattle.mat_rows.proofs.PlaceLaws.{between_parts}
use Rattle.mat_rows.proofs.rows.MatRows.slice.Goals as goal

pub returns : goal.returns
returns c =
    let p = c.places-start.ensures in
    record {
      groups = IfOk-weaker c.slice.result _ _ (λ _ e. e ∙ between_parts c.args.span c.self.inside.groups.items c.places-start.result.0 c.places-start.result.1 p.order p.start p.end p.start_parts p.end_parts ∙ ap (within c.args.span) c.self.view_is) c.slice.ensures.items;
    }
