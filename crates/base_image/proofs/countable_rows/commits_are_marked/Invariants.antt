use Rattle.std.proofs.Common.{◌≡◌, ◌∷◌, [], length, true}
use Rattle.std.specs.List.{list_all}
use Rattle.ts_model.specs.Saved.{appended_over}
use Rattle.ts_model.specs.Valid.{row_marked}
use Rattle.base_image.specs.Held.{is_timed}
use Rattle.base_image.proofs.ListLaws.{IsToldBy}
use Rattle.base_image.proofs.countable_rows.commits_are_marked.Given as goal

abbrev pub invariant-loop-left : goal.invariant-loop-left
invariant-loop-left l =
    IsToldBy (λ event. list_all (row_marked l.def.fold l.view) (appended_over l.def.table (event ∷ []))) l.events l.left
    × (list_all is_timed l.left ≡ true)

abbrev pub decreases-loop-left : goal.decreases-loop-left
decreases-loop-left l = length l.left
