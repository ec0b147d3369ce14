-- Reading an image from left to right: the value in front and the bytes after it, or nothing.
use Rattle.std.specs.Prelude.{ℕ, ◌^◌, nat_le, ◌==◌, ℤ, pos, ◌+ℤ◌, ◌*ℤ◌, Bool, cond, List, [], ◌∷◌, length, take, drop, Result, Ok, Err, Option}
use Rattle.ts_bucket.specs.declared.spans.Span.{Span}
use Rattle.ts_model.specs.Roster.{no_relations, roster_over}
use Rattle.ts_model.specs.Valid.{make_relations}
use Rattle.ts_model.specs.declared.events.Event.{Event}
use Rattle.ts_model.specs.declared.images.Finished.{Finished}
use Rattle.ts_model.specs.declared.images.Image.{Image}
use Rattle.ts_model.specs.declared.images.SavedGroup.{SavedGroup}
use Rattle.ts_model.specs.declared.images.SavedLast.{SavedLast}
use Rattle.ts_model.specs.declared.images.SavedView.{SavedView}
use Rattle.ts_model.specs.declared.images.Sums.{Sums}
use Rattle.ts_model.specs.declared.refreshes.Waiting.{Waiting}
use Rattle.ts_model.specs.declared.rosters.Roster.{Roster}
use Rattle.ts_model.specs.declared.views.ViewDef.{ViewDef}
use Rattle.event_codec.specs.Reading.{Reads, go_on, gives, pair, read_map, byte_where, put_before, items, second, any_four, any_eight, any_word, many_of, value_at, span_at, whole_event}
use Rattle.base_image.specs.declared.shapes.Shape.{Shape}

-- the value that is read, if it passes a test
abbrev pub checked_by : {A : Type 0} → (A → Bool) → Reads A → Reads A
checked_by test p bytes = go_on (p bytes) (λ a left. cond (test a) (Ok (a, left)) (Err left))

-- ---- numbers

-- the number with these eight lower and these eight upper bytes
abbrev pub to_wide : ℕ × ℤ → ℤ
to_wide x = (x.1 *ℤ pos (2 ^ 64)) +ℤ pos x.0

unfoldable pub wide_at : Reads ℤ
wide_at = read_map to_wide (pair any_eight (λ low. any_word))

-- ---- events

-- the value read from a part, with the rest after the part; or nothing was read, and everything from here on is
-- left
abbrev pub past_part : Result (Event × List ℕ) (List ℕ) → List ℕ → List ℕ → Result (Event × List ℕ) (List ℕ)
past_part (Ok x) here rest = Ok (x.0, rest)
past_part (Err end) here rest = Err here

-- the first n bytes are those of an event
abbrev pub frame_body : ℕ → Reads Event
frame_body n bytes = cond (nat_le n (length bytes)) (past_part (whole_event (take n bytes)) bytes (drop n bytes)) (Err bytes)

unfoldable pub framed_at : Reads Event
framed_at = read_map second (pair any_four frame_body)

-- ---- groups

abbrev pub to_sums : ℕ × (ℕ × (ℤ × (Option ℤ × Option ℤ))) → Sums
to_sums x = record { count = x.0; values = x.1.0; sum = x.1.1.0; least = x.1.1.1.0; most = x.1.1.1.1 }

unfoldable pub sums_at : Reads Sums
sums_at =
    read_map to_sums
    (pair any_eight (λ count. pair any_eight (λ values. pair wide_at (λ sum. pair value_at (λ least. value_at)))))

abbrev pub to_group : ℤ × (List (Option ℤ) × List Sums) → SavedGroup
to_group x = record { start = x.0; keys = x.1.0; parts = x.1.1 }

unfoldable pub group_at : Shape → Reads SavedGroup
group_at shape =
    read_map to_group (pair any_word (λ start. pair (items shape.keys value_at) (λ keys. items shape.parts sums_at)))

-- ---- aggregates

abbrev pub to_last : Span × ℕ → SavedLast
to_last x = record { span = x.0; pos = x.1 }

unfoldable pub last_at : Reads SavedLast
last_at = read_map to_last (pair span_at (λ span. any_eight))

abbrev pub to_saved : List SavedLast × (List Span × (List SavedGroup × Option ℤ)) → SavedView
to_saved x = record { lasts = x.0; dirty = x.1.0; groups = x.1.1.0; mark = x.1.1.1 }

unfoldable pub saved_at : Shape → Reads SavedView
saved_at shape =
    read_map to_saved
    (pair (many_of last_at) (λ lasts. pair (many_of span_at) (λ dirty. pair (many_of (group_at shape)) (λ groups. value_at))))

-- the shape of the groups of an aggregate
abbrev pub shape_of : ViewDef → Shape
shape_of def = record { keys = length def.fold.keys; parts = length def.fold.aggs }

-- one for each of these aggregates
unfoldable pub saved_each : List ViewDef → Reads (List SavedView)
saved_each [] = gives []
saved_each (def ∷ defs) = read_map put_before (pair (saved_at (shape_of def)) (λ v. saved_each defs))

-- a count, which is that of these aggregates, and one for each
unfoldable pub views_at : List ViewDef → Reads (List SavedView)
views_at defs = read_map second (pair (checked_by (λ n. n == length defs) any_four) (λ n. saved_each defs))

-- ---- refreshes

abbrev pub to_waiting : ℕ × (ℕ × Span) → Waiting
to_waiting x = record { cut = x.0; view = x.1.0; span = x.1.1 }

unfoldable pub waiting_at : Reads Waiting
waiting_at = read_map to_waiting (pair any_eight (λ cut. pair any_four (λ view. span_at)))

abbrev pub to_finished : ℕ × ℕ → Finished
to_finished x = record { cut = x.0; built = x.1 }

unfoldable pub finished_at : Reads Finished
finished_at = read_map to_finished (pair any_eight (λ cut. any_eight))

-- ---- images

-- events that create a roster, with the roster
abbrev pub with_roster : List Event → List Event × Roster
with_roster es = (es, roster_over no_relations es)

unfoldable pub roster_at : Reads (List Event × Roster)
roster_at = read_map with_roster (checked_by (make_relations no_relations) (many_of framed_at))

abbrev pub to_image :
    ℕ × (ℕ × ((List Event × Roster) × (List Event × (List SavedView × (List Waiting × List Finished)))))
    → Image × Roster
to_image x = (
  record {
    pos = x.1.0;
    roster = x.1.1.0.0;
    rows = x.1.1.1.0;
    views = x.1.1.1.1.0;
    waiting = x.1.1.1.1.1.0;
    done = x.1.1.1.1.1.1;
  },
  x.1.1.0.1,
)

-- an image with its roster
unfoldable pub image_at : Reads (Image × Roster)
image_at =
    read_map to_image
    (pair (byte_where (λ b. b == 8)) (λ kind. pair any_eight (λ pos. pair roster_at (λ made. pair (many_of framed_at)
    (λ rows. pair (views_at made.1.views) (λ views. pair (many_of waiting_at) (λ waiting. many_of finished_at)))))))

-- the value that was read, if nothing is left
abbrev pub at_end : {A : Type 0} → A → Reads A
at_end a [] = Ok (a, [])
at_end a (b ∷ bytes) = Err (b ∷ bytes)

unfoldable pub whole_image : Reads (Image × Roster)
whole_image bytes = go_on (image_at bytes) at_end
