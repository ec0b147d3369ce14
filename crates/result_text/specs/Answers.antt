-- The texts of answers.
use Rattle.std.specs.Prelude.{ℕ, ℤ, List, [], ◌∷◌, ◌++◌, codes, decimal, length, Option, Some, None}
use Rattle.ts_bucket.specs.declared.spans.Span.{Span}
use Rattle.ts_num.specs.declared.values.Datum.{Datum}
use Rattle.ts_num.specs.Texts.{datum_text}
use Rattle.ts_model.specs.declared.queries.Answer.{Answer}
use Rattle.result_text.specs.Spans.{span_text}

-- the cells of a row after its first
abbrev pub more_cells : List Datum → List ℕ
more_cells [] = []
more_cells (d ∷ ds) = codes "|" ++ datum_text d ++ more_cells ds

-- the cells of a row, separated by |
abbrev pub cells_text : List Datum → List ℕ
cells_text [] = []
cells_text (d ∷ ds) = datum_text d ++ more_cells ds

-- a line for each row
abbrev pub rows_text : List (List Datum) → List ℕ
rows_text [] = []
rows_text (row ∷ rows) = cells_text row ++ codes "\n" ++ rows_text rows

-- a line for each stale range
abbrev pub stale_text : ℤ → List Span → List ℕ
stale_text min [] = []
stale_text min (span ∷ spans) = codes "stale " ++ span_text min span ++ codes "\n" ++ stale_text min spans

-- the number of operations queued in the write block of a query, if it is in one
abbrev pub queue_text : Option ℕ → List ℕ
queue_text None = []
queue_text (Some queue) = codes " queue " ++ decimal queue

-- the state that an answer shows: its position, and the queue on top
abbrev pub answer_place : ℕ → Option ℕ → List ℕ
answer_place pos queue = codes "ANSWER @" ++ decimal pos ++ queue_text queue

-- the numbers of its rows and of its stale ranges
abbrev pub answer_counts : ℕ → ℕ → List ℕ
answer_counts rows stale = codes " rows " ++ decimal rows ++ codes " stale " ++ decimal stale ++ codes "\n"

-- the head of an answer
abbrev pub answer_head : ℕ → Option ℕ → ℕ → ℕ → List ℕ
answer_head pos queue rows stale = answer_place pos queue ++ answer_counts rows stale

-- an answer: its head, its rows, its stale ranges
abbrev pub answer_lines : Answer → ℕ → Option ℕ → ℤ → List ℕ
answer_lines a pos queue min =
    answer_head pos queue (length a.rows) (length a.stale) ++ rows_text a.rows ++ stale_text min a.stale

-- outside a write block
abbrev pub answer_text : Answer → ℕ → ℤ → List ℕ
answer_text a pos min = answer_lines a pos None min

-- and in one with this many operations queued
abbrev pub queued_answer_text : Answer → ℕ → ℕ → ℤ → List ℕ
queued_answer_text a pos queue min = answer_lines a pos (Some queue) min
