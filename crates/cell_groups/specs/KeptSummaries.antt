-- The stored part of a summary of a column of cells: the part that the function shown needs.
use Rattle.std.specs.Prelude.{ℕ, zero, suc, List, [], ◌∷◌, map, Option, Some, None, ℤ, pos}
use Rattle.ts_num.specs.declared.values.Datum.{Datum}
use Rattle.ts_num.specs.declared.values.Datum.TheVariants.{Int}
use Rattle.ts_num.specs.declared.values.Fun.{Fun}
use Rattle.ts_num.specs.declared.values.Fun.TheVariants.{CountAll, Count, Sum, Min, Max, Avg}
use Rattle.ts_model.specs.declared.views.Agg.{Agg}
use Rattle.partial_agg.specs.Summaries.{Summary, mean_shown, sum_shown, summary}
use Rattle.cell_groups.specs.declared.tallies.Tally.{Tally}
use Rattle.ts_model.specs.Results.{cell_at}

-- ---- one column

-- the part of a summary that the number of rows needs
abbrev pub count_part : ℕ → Summary
count_part count = record { count = count; values = 0; sum = pos 0; least = None; most = None }

-- that of a sum
abbrev pub sum_part : ℕ → ℤ → Summary
sum_part values sum = record { count = 0; values = values; sum = sum; least = None; most = None }

-- that of a least number
abbrev pub least_part : ℕ → Option ℤ → Summary
least_part values least = record { count = 0; values = values; sum = pos 0; least = least; most = None }

-- that of a greatest number
abbrev pub most_part : ℕ → Option ℤ → Summary
most_part values most = record { count = 0; values = values; sum = pos 0; least = None; most = most }

-- the part of a summary that a function needs
abbrev pub needed_summary : Fun → Summary → Summary
needed_summary CountAll s = count_part s.count
needed_summary Count s = sum_part s.values s.sum
needed_summary Sum s = sum_part s.values s.sum
needed_summary Min s = least_part s.values s.least
needed_summary Max s = most_part s.values s.most
needed_summary Avg s = sum_part s.values s.sum

-- the least or the greatest of this many numbers
abbrev pub bound_of : ℕ → ℤ → Option ℤ
bound_of zero number = None
bound_of (suc n) number = Some number

-- the summary of a column that a tally represents
abbrev pub as_part : Fun → Tally → Summary
as_part CountAll t = count_part t.values
as_part Count t = sum_part t.values t.number
as_part Sum t = sum_part t.values t.number
as_part Min t = least_part t.values (bound_of t.values t.number)
as_part Max t = most_part t.values (bound_of t.values t.number)
as_part Avg t = sum_part t.values t.number

-- the tally of one value
abbrev pub value_tally : Option ℤ → Tally
value_tally None = record { values = 0; number = pos 0 }
value_tally (Some v) = record { values = 1; number = v }

-- the tally of one cell
abbrev pub cell_tally : Fun → Option ℤ → Tally
cell_tally CountAll v = record { values = 1; number = pos 0 }
cell_tally Count v = value_tally v
cell_tally Sum v = value_tally v
cell_tally Min v = value_tally v
cell_tally Max v = value_tally v
cell_tally Avg v = value_tally v

-- what a function shows of a tally
abbrev pub tally_shown : Fun → Tally → Datum
tally_shown CountAll t = Int (pos t.values)
tally_shown Count t = Int (pos t.values)
tally_shown Sum t = sum_shown t.values t.number
tally_shown Min t = sum_shown t.values t.number
tally_shown Max t = sum_shown t.values t.number
tally_shown Avg t = mean_shown t.values t.number

-- what is shown of one cell
abbrev pub cell_shown : List Datum → Agg → Datum
cell_shown cells a = tally_shown a.fun (cell_tally a.fun (cell_at cells a.col))

-- ---- all columns

abbrev pub needed_parts : List Agg → List Summary → List Summary
needed_parts [] ps = []
needed_parts (a ∷ aggs) [] = []
needed_parts (a ∷ aggs) (p ∷ ps) = needed_summary a.fun p ∷ needed_parts aggs ps

abbrev pub as_parts : List Agg → List Tally → List Summary
as_parts [] ts = []
as_parts (a ∷ aggs) [] = []
as_parts (a ∷ aggs) (t ∷ ts) = as_part a.fun t ∷ as_parts aggs ts

abbrev pub tallies_shown : List Agg → List Tally → List Datum
tallies_shown [] ts = []
tallies_shown (a ∷ aggs) [] = []
tallies_shown (a ∷ aggs) (t ∷ ts) = tally_shown a.fun t ∷ tallies_shown aggs ts

-- ---- one row

-- the tallies of one row
abbrev pub row_tallies : List Agg → List Datum → List Tally
row_tallies aggs cells = map (λ a. cell_tally a.fun (cell_at cells a.col)) aggs

-- the needed parts of one row
abbrev pub row_needs : List Agg → List Datum → List Summary
row_needs aggs cells = map (λ a. needed_summary a.fun (summary (cell_at cells a.col ∷ []))) aggs
