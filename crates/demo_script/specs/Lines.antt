-- The text of each kind of line.
use Rattle.std.specs.Prelude.{ℕ, ◌<◌, List, [], Option, None, Some, ⊤}
use Rattle.demo_script.specs.Demo.{aggregate_line, answer_line, hypertable_line, insert_line, late_line, refresh_line, table_line, with_end}
use Rattle.demo_script.specs.declared.lines.Line.{Line}
use Rattle.demo_script.specs.declared.lines.Line.TheVariants.{Table, Hypertable, Aggregate, Insert, Refresh, Answer, LateRow}

abbrev pub text_of : ℕ → Line → List ℕ
text_of demo Table = table_line
text_of demo Hypertable = hypertable_line
text_of demo Aggregate = aggregate_line
text_of demo (Insert round part) = insert_line demo round part
text_of demo (Refresh round) = refresh_line round
text_of demo Answer = answer_line
text_of demo LateRow = late_line demo

-- a line that inserts or refreshes does so in one of the rounds
abbrev pub IsInRound : Line → Type 0
IsInRound Table = ⊤
IsInRound Hypertable = ⊤
IsInRound Aggregate = ⊤
IsInRound (Insert round part) = (round < 40) × (part < 5)
IsInRound (Refresh round) = round < 40
IsInRound Answer = ⊤
IsInRound LateRow = ⊤

-- a line with its line feed, if there is one
abbrev pub line_with_end : Option (List ℕ) → List ℕ
line_with_end None = []
line_with_end (Some line) = with_end line
