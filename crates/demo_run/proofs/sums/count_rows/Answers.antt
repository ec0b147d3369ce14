-- The rows that the table shows are all its rows.
use Rattle.std.proofs.Common.{◌∙◌}
use Rattle.std.proofs.lemmas.Result.{IfOk-weaker}
use Rattle.demo_run.proofs.SumLaws.{shown_are_rows}
use Rattle.demo_run.proofs.sums.count_rows.Goals as goal

pub returns : goal.returns
returns g c = λ h stands. IfOk-weaker c.shown_rows.result _ _ (λ count is. is ∙ shown_are_rows h (c.requires.consistent h stands)) (c.shown_rows.ensures h stands)
