-- An image has as many bytes as its size says.
use Rattle.std.proofs.Common.{◌≡◌, ℕ, ◌+◌, ◌*◌, List, [], ◌∷◌, ◌++◌, length, length-append, Option, Some, None, ℤ, refl, arith}
use Rattle.std.specs.Prelude.{sum_by}
use Rattle.std.specs.List.{flat_map}
use Rattle.ts_bucket.specs.declared.spans.Span.{Span}
use Rattle.ts_model.specs.Bytes.{value_bytes}
use Rattle.ts_model.specs.declared.events.Event.{Event}
use Rattle.ts_model.specs.declared.images.Finished.{Finished}
use Rattle.ts_model.specs.declared.images.SavedGroup.{SavedGroup}
use Rattle.ts_model.specs.declared.images.SavedLast.{SavedLast}
use Rattle.ts_model.specs.declared.images.SavedView.{SavedView}
use Rattle.ts_model.specs.declared.images.Sums.{Sums}
use Rattle.ts_model.specs.declared.refreshes.Waiting.{Waiting}
use Rattle.ts_model.proofs.FieldLaws.{sum_cons}
use Rattle.event_codec.specs.Spelling.{four, eight, signed_bytes, many, value, span, event}
use Rattle.event_codec.proofs.BytesCounted.{bytes_counted as event_counted}
use Rattle.event_codec.proofs.Fronts.{four_length, eight_length, signed_length}
use Rattle.base_image.specs.Counting.{framed_bytes, sums_bytes, group_bytes, saved_bytes}
use Rattle.base_image.specs.Laws.{BytesAreCounted}
use Rattle.base_image.specs.Spelling.{wide, bytes_of_frame, sums, group, last, bytes_of_saved_view, bytes_of_waiting, bytes_of_finished}

-- items whose bytes are counted one by one
pub counted : {X : Type 0} (spell : X → List ℕ) (f : X → ℕ) → ((x : X) → length (spell x) ≡ f x) → (xs : List X) → length (flat_map spell xs) ≡ sum_by f xs
counted spell f each [] = refl
counted spell f each (x ∷ xs) = omega (arith, length-append (spell x) (flat_map spell xs), each x, counted spell f each xs, sum_cons f x xs)

-- items with this many bytes each
evenly : {X : Type 0} (spell : X → List ℕ) (n : ℕ) → ((x : X) → length (spell x) ≡ n) → (xs : List X) → length (flat_map spell xs) ≡ n * length xs
evenly spell n each [] = omega arith
evenly spell n each (x ∷ xs) = omega (arith, length-append (spell x) (flat_map spell xs), each x, evenly spell n each xs, more n (length xs))
  where
    more : (n k : ℕ) → n * (k + 1) ≡ n * k + n
    more n k = omega arith

many_counted : {X : Type 0} (spell : X → List ℕ) (f : X → ℕ) → ((x : X) → length (spell x) ≡ f x) → (xs : List X) → length (many spell xs) ≡ 4 + sum_by f xs
many_counted spell f each xs = omega (arith, length-append (four (length xs)) (flat_map spell xs), four_length (length xs), counted spell f each xs)

many_evenly : {X : Type 0} (spell : X → List ℕ) (n : ℕ) → ((x : X) → length (spell x) ≡ n) → (xs : List X) → length (many spell xs) ≡ 4 + n * length xs
many_evenly spell n each xs = omega (arith, length-append (four (length xs)) (flat_map spell xs), four_length (length xs), evenly spell n each xs)

wide_length : (z : ℤ) → length (wide z) ≡ 16
unfolding wide
wide_length z = refl

value_count : (v : Option ℤ) → length (value v) ≡ value_bytes v
value_count None = refl
value_count (Some v) = omega (arith, signed_length v)

span_count : (s : Span) → length (span s) ≡ 16
span_count s = omega (arith, length-append (signed_bytes s.lo) (signed_bytes s.hi), signed_length s.lo, signed_length s.hi)

framed_count : (e : Event) → length (bytes_of_frame e) ≡ framed_bytes e
framed_count e = omega (arith, length-append (four (length (event e))) (event e), four_length (length (event e)), event_counted e)

sums_count : (s : Sums) → length (sums s) ≡ sums_bytes s
sums_count s = omega (
  arith,
  length-append (eight s.count) (eight s.values ++ (wide s.sum ++ (value s.least ++ value s.most))),
  eight_length s.count,
  length-append (eight s.values) (wide s.sum ++ (value s.least ++ value s.most)),
  eight_length s.values,
  length-append (wide s.sum) (value s.least ++ value s.most),
  wide_length s.sum,
  length-append (value s.least) (value s.most),
  value_count s.least,
  value_count s.most,
)

group_count : (g : SavedGroup) → length (group g) ≡ group_bytes g
group_count g = omega (
  arith,
  length-append (signed_bytes g.start) (flat_map value g.keys ++ flat_map sums g.parts),
  signed_length g.start,
  length-append (flat_map value g.keys) (flat_map sums g.parts),
  counted value value_bytes value_count g.keys,
  counted sums sums_bytes sums_count g.parts,
)

last_count : (l : SavedLast) → length (last l) ≡ 24
last_count l = omega (arith, length-append (span l.span) (eight l.pos), span_count l.span, eight_length l.pos)

saved_count : (v : SavedView) → length (bytes_of_saved_view v) ≡ saved_bytes v
saved_count v = omega (
  arith,
  length-append (many last v.lasts) (many span v.dirty ++ (many group v.groups ++ value v.mark)),
  many_evenly last 24 last_count v.lasts,
  length-append (many span v.dirty) (many group v.groups ++ value v.mark),
  many_evenly span 16 span_count v.dirty,
  length-append (many group v.groups) (value v.mark),
  many_counted group group_bytes group_count v.groups,
  value_count v.mark,
)

waiting_count : (w : Waiting) → length (bytes_of_waiting w) ≡ 28
waiting_count w = omega (arith, length-append (eight w.cut) (four w.view ++ span w.span), eight_length w.cut, length-append (four w.view) (span w.span), four_length w.view, span_count w.span)

finished_count : (f : Finished) → length (bytes_of_finished f) ≡ 16
finished_count f = omega (arith, length-append (eight f.cut) (eight f.built), eight_length f.cut, eight_length f.built)

pub bytes_counted : BytesAreCounted
bytes_counted i = omega (
  arith,
  length-append (eight i.pos) (many bytes_of_frame i.roster ++ (many bytes_of_frame i.rows ++ (many bytes_of_saved_view i.views ++ (many bytes_of_waiting i.waiting ++ many bytes_of_finished i.done)))),
  eight_length i.pos,
  length-append (many bytes_of_frame i.roster) (many bytes_of_frame i.rows ++ (many bytes_of_saved_view i.views ++ (many bytes_of_waiting i.waiting ++ many bytes_of_finished i.done))),
  many_counted bytes_of_frame framed_bytes framed_count i.roster,
  length-append (many bytes_of_frame i.rows) (many bytes_of_saved_view i.views ++ (many bytes_of_waiting i.waiting ++ many bytes_of_finished i.done)),
  many_counted bytes_of_frame framed_bytes framed_count i.rows,
  length-append (many bytes_of_saved_view i.views) (many bytes_of_waiting i.waiting ++ many bytes_of_finished i.done),
  many_counted bytes_of_saved_view saved_bytes saved_count i.views,
  length-append (many bytes_of_waiting i.waiting) (many bytes_of_finished i.done),
  many_evenly bytes_of_waiting 28 waiting_count i.waiting,
  many_evenly bytes_of_finished 16 finished_count i.done,
)
