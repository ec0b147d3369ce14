-- The summary of a demonstration.
use Rattle.std.specs.Prelude.{ℕ, ℤ, List, ◌++◌, codes, decimal}
use Rattle.std.specs.Fmt.{signed_decimal}
use Rattle.result_text.specs.declared.summaries.Summary.{Summary}
use Rattle.result_text.specs.Answers.{stale_text}

-- a line of a word and a count
unfoldable pub count_line : List ℕ → ℕ → List ℕ
count_line word n = word ++ decimal n ++ codes "\n"

-- the line of the total
unfoldable pub total_line : ℤ → List ℕ
total_line n = codes "total " ++ signed_decimal n ++ codes "\n"

-- the number, the events, the rows and the groups
abbrev pub counts_text : Summary → List ℕ
counts_text s =
    count_line (codes "DEMO ") s.number ++ count_line (codes "events ") s.events ++ count_line (codes "rows ") s.rows
    ++ count_line (codes "groups ") s.groups

-- the total, the stale ranges and the reads
abbrev pub results_text : Summary → List ℕ
results_text s = total_line s.total ++ stale_text s.min s.stale ++ count_line (codes "reads ") s.reads

-- its lines: the number, the events, the rows, the groups and the total of the last answer, its stale ranges, the reads
abbrev pub summary_text : Summary → List ℕ
summary_text s = counts_text s ++ results_text s
