-- An image whose rows stay in the state from which it is taken, and the number of these rows.
use Rattle.std.specs.Prelude.{◌≡◌, ℕ, zero, suc, ◌+◌, ◌-◌, ◌≤◌, ◌^◌, ◌==◌, not, cond, min, List, [], ◌∷◌, ◌++◌, length, filter, sum_by}
use Rattle.std.specs.List.{flat_map}
use Rattle.ts_bucket.specs.Spans.{in_span}
use Rattle.ts_bucket.specs.declared.spans.Span.{Span}
use Rattle.ts_schema.specs.declared.rows.Row.{Row}
use Rattle.ts_model.specs.Bytes.{row_bytes}
use Rattle.ts_model.specs.declared.events.Event.{Event}
use Rattle.ts_model.specs.declared.images.Image.{Image}
use Rattle.event_codec.specs.Spelling.{four}
use Rattle.image_laws.specs.Images.{held_events}
use Rattle.base_image.specs.declared.tallies.Tally.{Tally}
use Rattle.base_image.specs.declared.outlines.Outline.{Outline}

-- ---- the rows of a table, span by span

-- the rows whose times are in a span
abbrev pub rows_in : Span → List Row → List Row
rows_in s rows = filter (λ row. in_span s row.at) rows

-- those of the first span, then those of the second, and so on
abbrev pub span_rows : List Row → List Span → List Row
span_rows rows spans = flat_map (λ s. rows_in s rows) spans

-- ---- the number of rows

-- their number and the number of their bytes, each capped at the greatest number of 64 bits
abbrev pub tally_of : List Row → Tally
tally_of rows = record { rows = min (length rows) (2 ^ 64 - 1); bytes = min (sum_by row_bytes rows) (2 ^ 64 - 1) }

-- the tally of each of n tables from number t on, which have these rows
abbrev pub tallies : (ℕ → List Row) → ℕ → ℕ → List Tally
tallies held t zero = []
tallies held t (suc n) = tally_of (held t) ∷ tallies held (suc t) n

-- the commits that hold their rows, one for each table with rows
abbrev pub commits : (ℕ → List Row) → ℕ → ℕ → List Event
commits held t zero = []
commits held t (suc n) = held_events t (held t) ++ commits held (suc t) n

-- the bytes of the commit of a table's rows, with the count before them
abbrev pub commit_bytes : Tally → ℕ
commit_bytes tally = cond (tally.rows == 0) 0 (18 + tally.bytes)

-- the bytes before the rows of a table: the count of the commit's bytes, the marks of a commit of one insert,
-- the table's number, and the number of rows
abbrev pub commit_head : ℕ → Tally → List ℕ
commit_head t tally = four (14 + tally.bytes) ++ (5 ∷ (four 1 ++ (1 ∷ (four t ++ four tally.rows))))

-- ---- the image

-- an image, with these commits as its rows
abbrev pub with_rows : List Event → Image → Image
with_rows events i =
    record { pos = i.pos; roster = i.roster; rows = events; views = i.views; waiting = i.waiting; done = i.done }

-- the image that an outline represents, if tables have these rows
abbrev pub whole : (ℕ → List Row) → Outline → Image
whole held outline = with_rows (commits held 0 (length outline.tallies)) outline.rest

-- the image in an outline holds no rows, and the outline has the tally of the rows of each of at most 64 tables
pub record IsOutline (held : ℕ → List Row) (outline : Outline) : Type 0 where
  pub no_rows : outline.rest.rows ≡ []
  pub tallied : outline.tallies ≡ tallies held 0 (length outline.tallies)
  pub few : length outline.tallies ≤ 64
