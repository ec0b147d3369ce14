-- A valid image of the code has an encoding.
use Rattle.std.proofs.Common.{◌≡◌, ℕ, ◌+◌, ◌^◌, ◌<◌, ◌&&◌, true, nat_lt, List, [], ◌∷◌, length, map, ℤ, pos, ◌+ℤ◌, ◌-ℤ◌, ◌≤ℤ◌, ◌<ℤ◌, int_lt, int_le, Option, Some, None, sym, arith}
use Rattle.std.specs.List.{AllByRecursion, list_all}
use Rattle.std.proofs.lemmas.Bool.{and_parts, true≢false}
use Rattle.std.proofs.lemmas.Int.{ints}
use Rattle.ts_bucket.specs.Bucket.{is_bucket}
use Rattle.ts_bucket.specs.declared.spans.Span.{Span}
use Rattle.ts_schema.specs.declared.rows.Row.{Row}
use Rattle.ts_schema.proofs.Cases.{int_lt-true}
use Rattle.ts_model.specs.declared.events.Event.{Event}
use Rattle.ts_model.specs.declared.images.Image.{Image}
use Rattle.ts_model.specs.declared.images.SavedLast.{SavedLast}
use Rattle.ts_model.specs.declared.images.SavedView.{SavedView}
use Rattle.ts_model.specs.declared.refreshes.Waiting.{Waiting}
use Rattle.ts_model.specs.declared.rosters.Roster.{Roster}
use Rattle.ts_model.specs.declared.views.ViewDef.{ViewDef}
use Rattle.ts_model.specs.Roster.{view_of}
use Rattle.ts_model.specs.Sound.{span_fits}
use Rattle.ts_model.specs.Valid.{dirty_fits, done_fits, groups_fit, has_lasts, image_roster, is_number, lasts_fit, mark_fits, row_marked, valid, view_kept, views_kept, waiting_fits}
use Rattle.ts_model.proofs.ValidLaws.{image_rows, valid_is}
use Rattle.event_codec.specs.Formed.{IsSpan}
use Rattle.base_image.specs.Formed.{Any, HasCounts, IsFormed, IsLast, IsSaved, IsWaiting}
use Rattle.base_image.specs.Outlines.{with_rows}
use Rattle.base_image.specs.Spelling.{image}
use Rattle.base_image.proofs.WritableLaws.{writable}
use Rattle.image_fields.specs.Fields.{HasFields, HasLast, HasSaved, HasSpan, HasWaiting}

-- ---- spans

holds_some : (s : Span) (o : Option ViewDef) → span_fits s o ≡ true → s.lo <ℤ s.hi
holds_some s None fits = absurd (true≢false (sym fits))
holds_some s (Some def) fits =
    let without_hi = and_parts _ _ fits in
    let without_lo = and_parts _ _ without_hi.0 in
    let without_first = and_parts _ _ without_lo.0 in
    int_lt-true s.lo s.hi (and_parts _ _ without_first.0).1

is_span : (s : Span) (o : Option ViewDef) → HasSpan s → span_fits s o ≡ true → IsSpan s
is_span s o has fits =
    let some = holds_some s o fits in
    record { lo = (has.0.0, omega (arith, ints, some, has.1.1)); hi = (omega (arith, ints, some), has.1.1) }

-- ---- what is kept of an aggregate

are_lasts : (p : ℕ) (def : ViewDef) (ls : List SavedLast) → list_all (λ (l : SavedLast). span_fits l.span (Some def) && nat_lt l.pos p) ls ≡ true → AllByRecursion HasLast ls → AllByRecursion IsLast ls
are_lasts p def [] fit has = tt
are_lasts p def (l ∷ ls) fit has =
    let parts = and_parts _ _ fit in
    let first = and_parts (span_fits l.span (Some def)) (nat_lt l.pos p) parts.0 in
    ((is_span l.span (Some def) has.0.0 first.0, has.0.1), are_lasts p def ls parts.1 has.1)

are_dirty : (def : ViewDef) (ls : List SavedLast) (ss : List Span) → list_all (λ (s : Span). span_fits s (Some def) && has_lasts def.fold.width ls s) ss ≡ true → AllByRecursion HasSpan ss → AllByRecursion IsSpan ss
are_dirty def ls [] fit has = tt
are_dirty def ls (s ∷ ss) fit has =
    let parts = and_parts _ _ fit in
    let first = and_parts (span_fits s (Some def)) (has_lasts def.fold.width ls s) parts.0 in
    (is_span s (Some def) has.0 first.0, are_dirty def ls ss parts.1 has.1)

is_saved : (p : ℕ) (def : ViewDef) (rows : List Row) (v : SavedView) → view_kept p def rows v ≡ true → HasCounts v → HasSaved v → IsSaved v
is_saved p def rows v kept counts has =
    let marked = and_parts _ (list_all (row_marked def.fold v) rows) kept in
    let below = and_parts _ (list_all _ v.groups) marked.0 in
    let marks = and_parts _ (mark_fits def.fold.width v.mark) below.0 in
    let groups = and_parts (lasts_fit def p v.lasts && dirty_fits def v.lasts v.dirty) (groups_fit def v.dirty v.groups) marks.0 in
    let ranges = and_parts (lasts_fit def p v.lasts) (dirty_fits def v.lasts v.dirty) groups.0 in
    record {
      lasts = (counts.lasts.0, are_lasts p def v.lasts (and_parts _ _ ranges.0).0 has.lasts);
      dirty = (counts.dirty.0, are_dirty def v.lasts v.dirty (and_parts _ _ ranges.1).0 has.dirty);
      groups = (counts.groups.0, has.groups);
      mark = has.mark;
    }

are_saved : (p : ℕ) (rows_of : ℕ → List Row) (defs : List ViewDef) (vs : List SavedView) → views_kept p rows_of defs vs ≡ true → AllByRecursion HasCounts vs → AllByRecursion HasSaved vs → AllByRecursion IsSaved vs
are_saved p rows_of [] [] kept counts has = tt
are_saved p rows_of [] (v ∷ vs) kept counts has = absurd (true≢false (sym kept))
are_saved p rows_of (def ∷ defs) [] kept counts has = absurd (true≢false (sym kept))
are_saved p rows_of (def ∷ defs) (v ∷ vs) kept counts has =
    let parts = and_parts (view_kept p def (rows_of def.table) v) (views_kept p rows_of defs vs) kept in
    (is_saved p def (rows_of def.table) v parts.0 counts.0 has.0, are_saved p rows_of defs vs parts.1 counts.1 has.1)

-- ---- refreshes

are_waiting : (r : Roster) (p : ℕ) (ws : List Waiting) → list_all (λ (w : Waiting). is_number p w.cut && span_fits w.span (view_of r w.view)) ws ≡ true → AllByRecursion HasWaiting ws → AllByRecursion IsWaiting ws
are_waiting r p [] fit has = tt
are_waiting r p (w ∷ ws) fit has =
    let parts = and_parts _ _ fit in
    let first = and_parts (is_number p w.cut) (span_fits w.span (view_of r w.view)) parts.0 in
    (record { cut = has.0.cut; view = has.0.view; span = is_span w.span (view_of r w.view) has.0.span first.1 }, are_waiting r p ws parts.1 has.1)

-- a valid image of fewer than 2 ^ 32 bytes, whose numbers are in range, has an encoding
pub formed : (i : Image) → valid i ≡ true → length (image i) < 2 ^ 32 → HasFields i → IsFormed i
formed i ok few has =
    let v = valid_is i ok in
    let counts = writable i ok few in
    record {
      pos = has.pos;
      roster = counts.roster;
      rows = counts.rows;
      views = (counts.views.0, are_saved i.pos (image_rows i) (image_roster i).views i.views v.views counts.views.1 has.views);
      waiting = (counts.waiting.0, are_waiting (image_roster i) i.pos i.waiting (and_parts _ _ v.waiting).0 has.waiting);
      done = (counts.done.0, has.done);
    }

-- the same for an image with these commits as its rows
pub formed_with : (i : Image) (events : List Event) → HasFields i → valid (with_rows events i) ≡ true → length (image (with_rows events i)) < 2 ^ 32 → IsFormed (with_rows events i)
formed_with i events has ok few = formed (with_rows events i) ok few (record { pos = has.pos; views = has.views; waiting = has.waiting; done = has.done })
