-- A valid image of fewer than 2 ^ 32 bytes can be written.
use Rattle.std.proofs.Common.{◌≡◌, ℕ, suc, ◌<◌, ◌≤◌, ◌^◌, Bool, true, false, ◌||◌, not, List, [], ◌∷◌, ◌++◌, map, length, refl, sym, ap, ◌∙◌, append_assoc, arith}
use Rattle.std.specs.Prelude.{nat_le, sum_by}
use Rattle.std.specs.List.{AllByRecursion, list_all}
use Rattle.std.proofs.lemmas.Bool.{and_parts, and_from, lt-ltb, true≢false}
use Rattle.ts_schema.specs.declared.rows.Row.{Row}
use Rattle.ts_schema.specs.Rows.{row_cmp}
use Rattle.ts_model.specs.Bytes.{event_bytes}
use Rattle.ts_model.specs.History.{resumed}
use Rattle.ts_model.specs.Limits.{bytes_limit}
use Rattle.ts_model.specs.Roster.{no_relations, roster_after, roster_over}
use Rattle.ts_model.specs.Saved.{nothing_saved}
use Rattle.ts_model.specs.Sound.{op_fits, sound_in, sound_at}
use Rattle.ts_model.specs.Timely.{timely_in}
use Rattle.ts_model.specs.Valid.{all_stand, hold_rows, may_follow, row_marked, make_relations, views_kept, valid}
use Rattle.ts_model.specs.declared.events.Event.{Event}
use Rattle.ts_model.specs.declared.events.Event.TheVariants.{Table, Hyper, View, Mode, Commit, Cut, Built}
use Rattle.ts_model.specs.declared.events.Op.TheVariants.{Insert, Delete}
use Rattle.ts_model.specs.declared.images.Image.{Image}
use Rattle.ts_model.specs.declared.images.SavedGroup.{SavedGroup}
use Rattle.ts_model.specs.declared.images.SavedView.{SavedView}
use Rattle.ts_model.specs.declared.rosters.Roster.{Roster}
use Rattle.ts_model.specs.declared.views.ViewDef.{ViewDef}
use Rattle.ts_model.proofs.FieldLaws.{sum_cons}
use Rattle.ts_model.proofs.ValidLaws.{valid_is}
use Rattle.event_codec.specs.Formed.{IsFormed as IsFormedEvent}
use Rattle.event_codec.proofs.BytesCounted.{bytes_counted as event_counted}
use Rattle.event_codec.proofs.SoundFormed.{sound_formed}
use Rattle.base_image.specs.Counting.{framed_bytes, group_bytes, saved_bytes, image_bytes}
use Rattle.base_image.specs.Formed.{IsFramed, HasCounts, IsWritable}
use Rattle.base_image.specs.Making.{is_view, may_come, make_rest}
use Rattle.base_image.specs.Spelling.{image}
use Rattle.base_image.proofs.Counts.{bytes_counted}
use Rattle.base_image.proofs.MakingLaws.{make_next}
use Rattle.base_image.proofs.Writable.{any_all}

-- ---- a history of these relations only

abbrev nothing_of : ViewDef → SavedView
nothing_of def = nothing_saved

abbrev relations_alone : List Event → Image
relations_alone es = record { pos = 0; roster = es; rows = []; views = map nothing_of (roster_over no_relations es).views; waiting = []; done = [] }

nothing_kept : (rows_of : ℕ → List Row) → ((t : ℕ) → rows_of t ≡ []) → (defs : List ViewDef) → views_kept 0 rows_of defs (map nothing_of defs) ≡ true
nothing_kept rows_of none [] = refl
nothing_kept rows_of none (def ∷ defs) = and_from _ _ (ap (λ (rows : List Row). list_all (row_marked def.fold nothing_saved) rows) (none def.table)) (nothing_kept rows_of none defs)

alone_valid : (es : List Event) → make_relations no_relations es ≡ true → valid (relations_alone es) ≡ true
alone_valid es made = and_from _ _ (and_from _ _ (and_from _ _ (and_from _ _ made refl) (nothing_kept (λ t. []) (λ t. refl) (roster_over no_relations es).views)) refl) refl

abbrev is_finish : Event → Bool
is_finish (Table def) = false
is_finish (Hyper t hyper) = false
is_finish (View def) = false
is_finish (Mode v only) = false
is_finish (Commit ops) = false
is_finish (Cut v span) = false
is_finish (Built cut snap) = true

-- an event other than a finish that fits these relations
formed_after : (es : List Event) (e : Event) → make_relations no_relations es ≡ true → is_finish e ≡ false → sound_in (roster_over no_relations es) e ≡ true → event_bytes e < 2 ^ 32 → IsFormedEvent e
formed_after es e made other s l = sound_formed (resumed (relations_alone es)) e (alone_valid es made) (omega arith) (and_from _ _ (sound_here e other s) (lt-ltb (event_bytes e) bytes_limit l))
  where
    sound_here : (e : Event) → is_finish e ≡ false → sound_in (roster_over no_relations es) e ≡ true → sound_at (resumed (relations_alone es)) e ≡ true
    sound_here (Table def) other s = s
    sound_here (Hyper t hyper) other s = s
    sound_here (View def) other s = s
    sound_here (Mode v only) other s = s
    sound_here (Commit ops) other s = s
    sound_here (Cut v span) other s = s
    sound_here (Built cut snap) other s = absurd (true≢false other)

-- ---- relations, one by one

abbrev begun_by : Bool → List Event → Bool
begun_by begun [] = begun
begun_by begun (e ∷ es) = begun_by (begun || is_view e) es

record Split (begun : Bool) (r : Roster) (xs ys : List Event) : Type 0 where
  front : make_rest begun r xs ≡ true
  back : make_rest (begun_by begun xs) (roster_over r xs) ys ≡ true

none_to_make : (begun : Bool) (r : Roster) → make_rest begun r [] ≡ true
none_to_make false r = refl
none_to_make true r = refl

split : (begun : Bool) (r : Roster) (xs ys : List Event) → make_rest begun r (xs ++ ys) ≡ true → Split begun r xs ys
split begun r [] ys h = record { front = none_to_make begun r; back = h }
split begun r (e ∷ es) ys h =
    let p = and_parts (may_come r begun e) (make_rest (begun || is_view e) (roster_after r e) (es ++ ys)) (sym (make_next begun r e (es ++ ys)) ∙ h) in
    let rest = split (begun || is_view e) (roster_after r e) es ys p.1 in
    record { front = make_next begun r e es ∙ and_from _ _ p.0 rest.front; back = rest.back }

-- an event that may come next isn't a finish and fits the relations
came : (r : Roster) (begun : Bool) (e : Event) → may_come r begun e ≡ true → (is_finish e ≡ false) × (sound_in r e ≡ true)
came r begun (Table def) h =
    let p = and_parts (not begun) (may_follow r (Table def)) h in
    (refl, (and_parts (sound_in r (Table def)) (timely_in r (Table def)) p.1).0)
came r begun (Hyper t hyper) h =
    let p = and_parts _ (may_follow r (Hyper t hyper)) h in
    (refl, (and_parts (sound_in r (Hyper t hyper)) (timely_in r (Hyper t hyper)) p.1).0)
came r begun (View def) h = (refl, (and_parts (sound_in r (View def)) (timely_in r (View def)) h).0)
came r begun (Mode v only) h = absurd (true≢false (sym h))
came r begun (Commit ops) h = absurd (true≢false (sym h))
came r begun (Cut v span) h = absurd (true≢false (sym h))
came r begun (Built cut snap) h = absurd (true≢false (sym h))

framed_by : (e : Event) → IsFormedEvent e → event_bytes e < 2 ^ 32 → IsFramed e
framed_by e f l = (f, omega (arith, event_counted e, l))

relations_framed : (before after : List Event) → make_relations no_relations (before ++ after) ≡ true → sum_by framed_bytes after < 2 ^ 32 → AllByRecursion IsFramed after
relations_framed before [] h l = tt
relations_framed before (e ∷ es) h l =
    let s = split false no_relations before (e ∷ es) h in
    let begun : Bool = begun_by false before in
    let r : Roster = roster_over no_relations before in
    let p = and_parts (may_come r begun e) (make_rest (begun || is_view e) (roster_after r e) es) (sym (make_next begun r e es) ∙ s.back) in
    let c = came r begun e p.0 in
    let small : event_bytes e < 2 ^ 32 = omega (arith, l, sum_cons framed_bytes e es) in
    let rest : sum_by framed_bytes es < 2 ^ 32 = omega (arith, l, sum_cons framed_bytes e es) in
    let next : make_relations no_relations ((before ++ (e ∷ [])) ++ es) ≡ true = ap (make_relations no_relations) (append_assoc before (e ∷ []) es) ∙ h in
    (framed_by e (formed_after before e s.front c.0 c.1 small) small, relations_framed (before ++ (e ∷ [])) es next rest)

-- ---- rows

rows_framed : (es : List Event) (low : ℕ) (rows : List Event) → make_relations no_relations es ≡ true → hold_rows (roster_over no_relations es) low rows ≡ true → sum_by framed_bytes rows < 2 ^ 32 → AllByRecursion IsFramed rows
rows_framed es low [] made h l = tt
rows_framed es low (Table def ∷ rows) made h l = absurd (true≢false (sym h))
rows_framed es low (Hyper t hyper ∷ rows) made h l = absurd (true≢false (sym h))
rows_framed es low (View def ∷ rows) made h l = absurd (true≢false (sym h))
rows_framed es low (Mode v only ∷ rows) made h l = absurd (true≢false (sym h))
rows_framed es low (Commit [] ∷ rows) made h l = absurd (true≢false (sym h))
rows_framed es low (Commit (Insert t new ∷ []) ∷ rows) made h l =
    let r : Roster = roster_over no_relations es in
    let rest = and_parts _ (hold_rows r (suc t) rows) h in
    let stand = and_parts _ (all_stand row_cmp new) rest.0 in
    let fits = and_parts (nat_le low t) (op_fits r (Insert t new)) stand.0 in
    let e : Event = Commit (Insert t new ∷ []) in
    let small : event_bytes (Commit (Insert t new ∷ [])) < 2 ^ 32 = omega (arith, l, sum_cons framed_bytes (Commit (Insert t new ∷ [])) rows) in
    let others : sum_by framed_bytes rows < 2 ^ 32 = omega (arith, l, sum_cons framed_bytes (Commit (Insert t new ∷ [])) rows) in
    (framed_by e (formed_after es e made refl (and_from _ _ fits.1 refl) small) small, rows_framed es (suc t) rows made rest.1 others)
rows_framed es low (Commit (Insert t new ∷ op ∷ ops) ∷ rows) made h l = absurd (true≢false (sym h))
rows_framed es low (Commit (Delete t tests ∷ []) ∷ rows) made h l = absurd (true≢false (sym h))
rows_framed es low (Commit (Delete t tests ∷ op ∷ ops) ∷ rows) made h l = absurd (true≢false (sym h))
rows_framed es low (Cut v span ∷ rows) made h l = absurd (true≢false (sym h))
rows_framed es low (Built cut snap ∷ rows) made h l = absurd (true≢false (sym h))

-- ---- counts

counted : {X : Type 0} (f : X → ℕ) → ((x : X) → 1 ≤ f x) → (xs : List X) → length xs ≤ sum_by f xs
counted f least [] = omega arith
counted f least (x ∷ xs) = omega (arith, sum_cons f x xs, counted f least xs, least x)

framed_some : (e : Event) → 1 ≤ framed_bytes e
framed_some e = omega arith

group_some : (g : SavedGroup) → 1 ≤ group_bytes g
group_some g = omega arith

saved_some : (v : SavedView) → 1 ≤ saved_bytes v
saved_some v = omega arith

saved_counted : (v : SavedView) → saved_bytes v < 2 ^ 32 → HasCounts v
saved_counted v l = record {
  lasts = (omega (arith, l), any_all v.lasts);
  dirty = (omega (arith, l), any_all v.dirty);
  groups = (omega (arith, l, counted group_bytes group_some v.groups), any_all v.groups);
}

views_counted : (vs : List SavedView) → sum_by saved_bytes vs < 2 ^ 32 → AllByRecursion HasCounts vs
views_counted [] l = tt
views_counted (v ∷ vs) l = (saved_counted v (omega (arith, l, sum_cons saved_bytes v vs)), views_counted vs (omega (arith, l, sum_cons saved_bytes v vs)))

pub writable : (i : Image) → valid i ≡ true → length (image i) < 2 ^ 32 → IsWritable i
writable i ok few =
    let v = valid_is i ok in
    let total : image_bytes i < 2 ^ 32 = omega (arith, few, bytes_counted i) in
    let roster : sum_by framed_bytes i.roster < 2 ^ 32 = omega (arith, total) in
    let rows : sum_by framed_bytes i.rows < 2 ^ 32 = omega (arith, total) in
    let views : sum_by saved_bytes i.views < 2 ^ 32 = omega (arith, total) in
    record {
      roster = (omega (arith, roster, counted framed_bytes framed_some i.roster), relations_framed [] i.roster v.relations roster);
      rows = (omega (arith, rows, counted framed_bytes framed_some i.rows), rows_framed i.roster 0 i.rows v.relations v.rows rows);
      views = (omega (arith, views, counted saved_bytes saved_some i.views), views_counted i.views views);
      waiting = (omega (arith, total), any_all i.waiting);
      done = (omega (arith, total), any_all i.done);
    }
