-- Row versions: a row with the positions at which it was inserted and deleted, and what a position sees.
use Rattle.std.specs.Prelude.{ℕ, ◌+◌, max, Bool, false, cond, not, ◌&&◌, nat_le, List, [], ◌∷◌, ◌++◌, map, filter, take, count_by, ◌≡◌, ℤ, Option, Some, None}
use Rattle.std.specs.Int.{int_max}
use Rattle.ts_bucket.specs.Spans.{SpanValue, in_span}
use Rattle.ts_schema.specs.declared.rows.Row.{Row}
use Rattle.ts_schema.specs.declared.conditions.Test.{Test}
use Rattle.ts_schema.specs.Conditions.{passes_all}

-- a row, the position at which it was inserted, and the position at which it was deleted, if it was
pub record Version : Type 0 where
  pub row : Row
  pub born : ℕ
  pub died : Option ℕ

-- deleted at or before position p
abbrev pub is_dead_at : ℕ → Option ℕ → Bool
is_dead_at p None = false
is_dead_at p (Some d) = nat_le d p

-- a version is visible at p if it was inserted at or before p and wasn't deleted at or before p
abbrev pub visible_at : ℕ → Version → Bool
visible_at p v = nat_le v.born p && not (is_dead_at p v.died)

-- a version is visible at p and its time lies in the span
abbrev pub shown_at : ℕ → SpanValue → Version → Bool
shown_at p s v = visible_at p v && in_span s v.row.at

-- the rows of these versions
abbrev pub rows_of : List Version → List Row
rows_of vs = map (λ v. v.row) vs

-- the rows of the span that are visible at p
abbrev pub rows_at : ℕ → SpanValue → List Version → List Row
rows_at p s vs = rows_of (filter (shown_at p s) vs)

-- a row inserted at p
abbrev pub newborn : ℕ → Row → Version
newborn p row = record { row = row; born = p; died = None }

-- a delete at p takes a version: it is visible there and its row passes every test
abbrev pub is_taken : ℕ → List Test → Version → Bool
is_taken p tests v = visible_at p v && passes_all v.row tests

-- the rows that a delete at p takes
abbrev pub taken_at : ℕ → List Test → List Version → List Row
taken_at p tests vs = rows_of (filter (is_taken p tests) vs)

-- a version after a delete at p: deleted at p if it is taken, and unchanged otherwise
abbrev pub after_kill : ℕ → List Test → Version → Version
after_kill p tests v = cond (is_taken p tests v) (record { row = v.row; born = v.born; died = Some p }) v

-- the greater of two times; if one is missing, it is the other
abbrev pub later_time : Option ℤ → Option ℤ → Option ℤ
later_time None b = b
later_time (Some x) None = Some x
later_time (Some x) (Some y) = Some (int_max x y)

-- the greatest time of these rows
abbrev pub latest_of : List Row → Option ℤ
latest_of [] = None
latest_of (row ∷ rows) = later_time (Some row.at) (latest_of rows)

-- the greatest time that is visible at p
abbrev pub latest_at : ℕ → List Version → Option ℤ
latest_at p vs = latest_of (rows_of (filter (visible_at p) vs))

-- the later of two positions, if both are known
abbrev pub later_death : Option ℕ → Option ℕ → Option ℕ
later_death None q = None
later_death (Some p) None = None
later_death (Some p) (Some q) = Some (max p q)

-- the position of the last delete, if all of these versions are deleted; the first position if there is no version
abbrev pub died_out : List Version → Option ℕ
died_out [] = Some 0
died_out (v ∷ vs) = later_death v.died (died_out vs)

-- the same items, each as often, in any order: every test passes as many of both
abbrev pub AsOften : {X : Type 0} → List X → List X → Type 0
AsOften {X} xs ys = (test : X → Bool) → count_by test xs ≡ count_by test ys

-- a list gained the first of these items, in their order: none, some or all of them
abbrev pub GainsFirst : {X : Type 0} → List X → List X → List X → Type 0
GainsFirst {X} items old new = (k : ℕ) × (new ≡ old ++ take k items)

-- a list has these items in addition, at any places: every test passes as many of it as of the old list and of
-- these items together
abbrev pub HasMore : {X : Type 0} → List X → List X → List X → Type 0
HasMore {X} items old new = (test : X → Bool) → count_by test new ≡ count_by test old + count_by test items
