-- The numbers of the events that a reply names.
use Rattle.std.specs.Prelude.{ℕ, List, [], ◌∷◌, ◌++◌}
use Rattle.result_text.specs.declared.replies.Said.{Said}
use Rattle.result_text.specs.declared.replies.Said.TheVariants as said

-- the numbers in one line
abbrev pub made_by : Said → List ℕ
made_by (said.Table pos) = pos ∷ []
made_by (said.Hypertable pos) = pos ∷ []
made_by (said.View pos) = pos ∷ []
made_by (said.Mode pos) = pos ∷ []
made_by (said.Commit done) = done.pos ∷ []
made_by (said.Refresh cut pos snap span min) = cut ∷ pos ∷ []
made_by (said.Cut cut span min) = cut ∷ []
made_by (said.Finish cut pos snap) = pos ∷ []
made_by other = []

-- the numbers in all lines of a reply
abbrev pub made_in : List Said → List ℕ
made_in [] = []
made_in (s ∷ lines) = made_by s ++ made_in lines
