-- Groups under construction, as rows are added.
use Rattle.std.proofs.Common.{◌≡◌, ℕ, zero, suc, ◌+◌, ◌-◌, ◌≤◌, ◌<◌, ◌^◌, Bool, true, false, ◌||◌, ◌&&◌, cond, List, [], ◌∷◌, ◌++◌, length, take, drop, get_or, Option, Some, None, Result, Ok, Err, sym, refl, ap, ◌∙◌, subst, arith, append_assoc}
use Rattle.std.specs.Prelude.{◌==◌, slice_get, unwrap_or}
use Rattle.std.specs.List.{AllByRecursion, AllZip, list_all, list_any}
use Rattle.std.proofs.lemmas.Bool.{true≢false, and_parts}
use Rattle.std.proofs.lemmas.List.{append-nil, drop_all, length-append, take_all}
use Rattle.ts_bucket.specs.Bucket.{is_time}
use Rattle.ts_schema.specs.declared.rows.Row.{Row}
use Rattle.partial_agg.specs.declared.groups.Group.{Group}
use Rattle.ts_model.specs.declared.events.Event.{Event}
use Rattle.ts_model.specs.declared.events.Event.TheVariants.{Commit}
use Rattle.ts_model.specs.declared.events.Op.{Op}
use Rattle.ts_model.specs.declared.images.Image.{Image}
use Rattle.ts_model.specs.declared.images.SavedView.{SavedView}
use Rattle.ts_model.specs.declared.views.ViewDef.{ViewDef}
use Rattle.ts_model.specs.Groups.{groups_of}
use Rattle.ts_model.specs.declared.events.Op.TheVariants.{Insert}
use Rattle.ts_model.specs.Saved.{appended_by, appended_over, nothing_saved, saved_view}
use Rattle.engine_state.proofs.ResumedTables.{over_cons}
use Rattle.group_fold.specs.Foldings.{HasTaken}
use Rattle.group_fold.specs.Grouping.{AreTimes}
use Rattle.ts_schema.specs.Counts.{RaisedUpTo, Ticks, raised_by}
use Rattle.engine_state.specs.Lists.{Each, EachFrom}
use Rattle.engine_state.specs.declared.group_rebuilds.GroupRebuild.{GroupRebuild}
use Rattle.engine_state.specs.GroupRebuilds.{AreRefolded, AreRefolds, CanTake, IsRefoldOf, IsRefolded, Makes, TakesBy, TakesMore, events_read, feeds, is_over, rows_of, was_refreshed}

-- ---- in order

takes_more : (f g h : ℕ → List Row) (a b c : GroupRebuild) → ((t : ℕ) → h t ≡ f t ++ g t) → TakesMore f a b → TakesMore g b c → TakesMore h a c
takes_more f g h a b c both first then = record {
  table_is = then.table_is ∙ first.table_is;
  plan_is = then.plan_is ∙ first.plan_is;
  taken = λ before has. subst (λ (rows : List Row). HasTaken c.plan rows c.folding)
      (append_assoc before (f a.table) (g b.table) ∙ ap (λ more. before ++ more) (ap (λ t. f a.table ++ g t) first.table_is ∙ sym (both a.table)))
      (then.taken (before ++ f a.table) (first.taken before has));
}

takes_then : (f g h : ℕ → List Row) (a b c : Option GroupRebuild) → ((t : ℕ) → h t ≡ f t ++ g t) → TakesBy f a b → TakesBy g b c → TakesBy h a c
takes_then f g h None None None both p q = tt
takes_then f g h None None (Some c) both p q = absurd q
takes_then f g h None (Some b) c both p q = absurd p
takes_then f g h (Some a) None c both p q = absurd p
takes_then f g h (Some a) (Some b) None both p q = absurd q
takes_then f g h (Some a) (Some b) (Some c) both p q = takes_more f g h a b c both p q

pub each_then : (f g h : ℕ → List Row) (rs bs cs : List (Option GroupRebuild)) → ((t : ℕ) → h t ≡ f t ++ g t) → AllZip (TakesBy f) rs bs → AllZip (TakesBy g) bs cs → AllZip (TakesBy h) rs cs
each_then f g h [] [] [] both p q = tt
each_then f g h [] [] (c ∷ cs) both p q = absurd q
each_then f g h [] (b ∷ bs) cs both p q = absurd p
each_then f g h (a ∷ rs) [] cs both p q = absurd p
each_then f g h (a ∷ rs) (b ∷ bs) [] both p q = absurd q
each_then f g h (a ∷ rs) (b ∷ bs) (c ∷ cs) both p q = (takes_then f g h a b c both p.0 q.0, each_then f g h rs bs cs both p.1 q.1)

-- more rows can be added to them
can_after : (f : ℕ → List Row) (a b : Option GroupRebuild) → CanTake a → TakesBy f a b → CanTake b
can_after f None None can p = tt
can_after f None (Some b) can p = absurd p
can_after f (Some a) None can p = absurd p
can_after f (Some a) (Some b) can p = (can.0 ++ f a.table, p.taken can.0 can.1)

pub all_can_after : (f : ℕ → List Row) (rs bs : List (Option GroupRebuild)) → AllByRecursion CanTake rs → AllZip (TakesBy f) rs bs → AllByRecursion CanTake bs
all_can_after f [] [] can p = tt
all_can_after f [] (b ∷ bs) can p = absurd p
all_can_after f (a ∷ rs) [] can p = absurd p
all_can_after f (a ∷ rs) (b ∷ bs) can p = (can_after f a b can.0 p.0, all_can_after f rs bs can.1 p.1)

-- they are over the same tables
over_after : (f : ℕ → List Row) (t : ℕ) (a b : Option GroupRebuild) → TakesBy f a b → is_over t b ≡ is_over t a
over_after f t None None p = refl
over_after f t None (Some b) p = absurd p
over_after f t (Some a) None p = absurd p
over_after f t (Some a) (Some b) p = ap (λ u. t == u) p.table_is

pub any_over_after : (f : ℕ → List Row) (t : ℕ) (rs bs : List (Option GroupRebuild)) → AllZip (TakesBy f) rs bs → list_any (is_over t) bs ≡ list_any (is_over t) rs
any_over_after f t [] [] p = refl
any_over_after f t [] (b ∷ bs) p = absurd p
any_over_after f t (a ∷ rs) [] p = absurd p
any_over_after f t (a ∷ rs) (b ∷ bs) p = ap (λ o. o || list_any (is_over t) bs) (over_after f t a b p.0) ∙ ap (λ o. is_over t a || o) (any_over_after f t rs bs p.1)

-- the same number of rows is read
pub same_reads : (p q : ℕ → Bool) (es : List Event) → ((t : ℕ) → p t ≡ q t) → events_read p es ≡ events_read q es
same_reads p q es same = λ k. events_read (λ t. same t k) es

-- ---- no rows

takes_nothing : (f : ℕ → List Row) (r : GroupRebuild) → f r.table ≡ [] → TakesMore f r r
takes_nothing f r none = record {
  table_is = refl;
  plan_is = refl;
  taken = λ before has. subst (λ (rows : List Row). HasTaken r.plan rows r.folding) (sym (ap (λ more. before ++ more) none ∙ append-nil before)) has;
}

pub none_taken : (f : ℕ → List Row) (rs : List (Option GroupRebuild)) → ((t : ℕ) → f t ≡ []) → AllZip (TakesBy f) rs rs
none_taken f [] none = tt
none_taken f (None ∷ rs) none = (tt, none_taken f rs none)
none_taken f (Some a ∷ rs) none = (takes_nothing f a (none a.table), none_taken f rs none)

-- rows of a table without an aggregate over it
not_or : (a b : Bool) → (a || b) ≡ false → (a ≡ false) × (b ≡ false)
not_or true b e = absurd (true≢false e)
not_or false b e = (refl, e)

pub others_taken : (t : ℕ) (rows : List Row) (rs : List (Option GroupRebuild)) → list_any (is_over t) rs ≡ false → AllZip (TakesBy (rows_of t rows)) rs rs
others_taken t rows [] e = tt
others_taken t rows (None ∷ rs) e = (tt, others_taken t rows rs e)
others_taken t rows (Some a ∷ rs) e =
    let parts = not_or (t == a.table) (list_any (is_over t) rs) e in
    (takes_nothing (rows_of t rows) a (ap (λ o. cond o rows []) parts.0), others_taken t rows rs parts.1)

-- ---- the rows of a table, piece by piece

rows_of-append : (t u : ℕ) (front more : List Row) → rows_of t (front ++ more) u ≡ rows_of t front u ++ rows_of t more u
rows_of-append t u front more = elim (t == u) as (λ b. cond b (front ++ more) [] ≡ cond b front [] ++ cond b more []) [
  | true ↦ refl
  | false ↦ refl
]

cut : (k : ℕ) (xs : List Row) → take k xs ++ drop k xs ≡ xs
cut zero xs = refl
cut (suc k) [] = refl
cut (suc k) (x ∷ xs) = ap (λ ys. x ∷ ys) (cut k xs)

pub record InFront (t : ℕ) (rows : List Row) (olds : List (Option GroupRebuild)) (left : List Row) (news : List (Option GroupRebuild)) : Type 0 where
  pub front : List Row
  pub whole : front ++ left ≡ rows
  pub taken : AllZip (TakesBy (rows_of t front)) olds news

pub nothing_in_front : (t : ℕ) (rows : List Row) (olds : List (Option GroupRebuild)) → InFront t rows olds rows olds
nothing_in_front t rows olds = record { front = []; whole = refl; taken = none_taken (rows_of t []) olds (λ u. elim (t == u) as (λ b. cond {A = List Row} b [] [] ≡ []) [ true ↦ refl | false ↦ refl ]) }

pub piece_in_front : (t : ℕ) (rows : List Row) (olds mids news : List (Option GroupRebuild)) (left piece rest : List Row) (k : ℕ) → piece ≡ take k left → rest ≡ drop k left → InFront t rows olds left mids → AllZip (TakesBy (rows_of t piece)) mids news → InFront t rows olds rest news
piece_in_front t rows olds mids news left piece rest k first others was more = record {
  front = was.front ++ piece;
  whole = append_assoc was.front piece rest ∙ ap (λ more. was.front ++ more) (ap (λ more. more ++ rest) first ∙ ap (λ more. take k left ++ more) others ∙ cut k left) ∙ was.whole;
  taken = each_then (rows_of t was.front) (rows_of t piece) (rows_of t (was.front ++ piece)) olds mids news (λ u. rows_of-append t u was.front piece) was.taken more;
}

pub all_in_front : (t : ℕ) (rows : List Row) (olds news : List (Option GroupRebuild)) (left : List Row) → left ≡ [] → InFront t rows olds left news → AllZip (TakesBy (rows_of t rows)) olds news
all_in_front t rows olds news left none was =
    subst (λ (more : List Row). AllZip (TakesBy (rows_of t more)) olds news) (sym (append-nil was.front) ∙ ap (λ more. was.front ++ more) (sym none) ∙ was.whole) was.taken

pub times_front : (k : ℕ) (rows : List Row) → AreTimes rows → AreTimes (take k rows)
times_front zero rows h = tt
times_front (suc k) [] h = tt
times_front (suc k) (row ∷ rows) h = (h.0, times_front k rows h.1)

pub times_back : (k : ℕ) (rows : List Row) → AreTimes rows → AreTimes (drop k rows)
times_back zero rows h = h
times_back (suc k) [] h = tt
times_back (suc k) (row ∷ rows) h = times_back k rows h.1

pub are_times : (rows : List Row) → list_all (λ row. is_time row.at) rows ≡ true → AreTimes rows
are_times [] e = tt
are_times (row ∷ rows) e =
    let parts = and_parts (is_time row.at) (list_all (λ r. is_time r.at) rows) e in
    (parts.0, are_times rows parts.1)

-- as many rows in both parts as before
pub length_cut : (left piece rest : List Row) (k : ℕ) → piece ≡ take k left → rest ≡ drop k left → length left ≡ length piece + length rest
length_cut left piece rest k first others =
    ap length (sym (cut k left)) ∙ length-append (take k left) (drop k left) ∙ ap (λ n. n + length (drop k left)) (ap length (sym first)) ∙ ap (λ n. length piece + n) (ap length (sym others))

-- counts, piece by piece
pub count_piece : (a b n total old mid new : ℕ) → n ≡ a + b → mid < 2 ^ 64 → new ≡ raised_by a mid → raised_by n mid ≡ raised_by total old → raised_by b new ≡ raised_by total old
count_piece a b n total old mid new parts small next so_far = omega (arith, parts, small, next, so_far)

pub count_cut : (a b n total old mid new : ℕ) → n ≡ a + b → mid < 2 ^ 64 → new ≡ raised_by a mid → old ≤ mid → raised_by n mid ≡ raised_by total old → RaisedUpTo total old new
count_cut a b n total old mid new parts small next up so_far = (omega (arith, small, next, up), omega (arith, parts, small, next, so_far))

-- one more finished one
pub zip_pushed : {A B : Type 0} (R : A → B → Type 0) (xs : List A) (ys : List B) (x : A) (y : B) → AllZip R xs ys → R x y → AllZip R (xs ++ x ∷ []) (ys ++ y ∷ [])
zip_pushed R [] [] x y e r = (r, tt)
zip_pushed R [] (b ∷ ys) x y e r = absurd e
zip_pushed R (a ∷ xs) [] x y e r = absurd e
zip_pushed R (a ∷ xs) (b ∷ ys) x y e r = (e.0, zip_pushed R xs ys x y e.1 r)

-- ---- beside the aggregates

refold_after : (f g h : ℕ → List Row) (def : ViewDef) (kept : SavedView) (a b : Option GroupRebuild) → ((t : ℕ) → h t ≡ f t ++ g t) → IsRefoldOf f def kept a → TakesBy g a b → IsRefoldOf h def kept b
refold_after f g h def kept None None both p q = p
refold_after f g h def kept None (Some b) both p q = absurd q
refold_after f g h def kept (Some a) None both p q = absurd q
refold_after f g h def kept (Some a) (Some b) both p q = (
  p.0,
  record {
    table_is = q.table_is ∙ p.1.table_is;
    plan_is = q.plan_is ∙ p.1.plan_is;
    taken = subst (λ (rows : List Row). HasTaken b.plan rows b.folding) (ap (λ t. f def.table ++ g t) p.1.table_is ∙ sym (both def.table)) (q.taken (f def.table) p.1.taken);
  },
)

pub refolds_after : (i : Image) (f g h : ℕ → List Row) (n : ℕ) (defs : List ViewDef) (rs bs : List (Option GroupRebuild)) → ((t : ℕ) → h t ≡ f t ++ g t) → EachFrom (AreRefolds i f) n defs rs → AllZip (TakesBy g) rs bs → EachFrom (AreRefolds i h) n defs bs
refolds_after i f g h n [] [] [] both p q = tt
refolds_after i f g h n [] [] (b ∷ bs) both p q = absurd q
refolds_after i f g h n [] (a ∷ rs) bs both p q = absurd p
refolds_after i f g h n (def ∷ defs) [] bs both p q = absurd p
refolds_after i f g h n (def ∷ defs) (a ∷ rs) [] both p q = absurd q
refolds_after i f g h n (def ∷ defs) (a ∷ rs) (b ∷ bs) both p q = (refold_after f g h def (saved_view n i) a b both p.0 q.0, refolds_after i f g h (suc n) defs rs bs both p.1 q.1)

made_of : (i : Image) (def : ViewDef) (kept : SavedView) (a : Option GroupRebuild) (groups : List Group) → IsRefoldOf (λ t. appended_over t i.rows) def kept a → Makes a groups → IsRefolded i def kept groups
made_of i def kept None groups p q = q ∙ sym (ap (λ b. cond b (groups_of def.fold (appended_over def.table i.rows)) []) p)
made_of i def kept (Some a) groups p q =
    q (appended_over def.table i.rows) p.1.taken ∙ ap (λ fold. groups_of fold (appended_over def.table i.rows)) p.1.plan_is
    ∙ sym (ap (λ b. cond b (groups_of def.fold (appended_over def.table i.rows)) []) p.0)

pub all_made : (i : Image) (n : ℕ) (defs : List ViewDef) (rs : List (Option GroupRebuild)) (made : List (List Group)) → EachFrom (AreRefolds i (λ t. appended_over t i.rows)) n defs rs → AllZip Makes rs made → EachFrom (AreRefolded i) n defs made
all_made i n [] [] [] p q = tt
all_made i n [] [] (m ∷ made) p q = absurd q
all_made i n [] (a ∷ rs) made p q = absurd p
all_made i n (def ∷ defs) [] made p q = absurd p
all_made i n (def ∷ defs) (a ∷ rs) [] p q = absurd q
all_made i n (def ∷ defs) (a ∷ rs) (m ∷ made) p q = (made_of i def (saved_view n i) a m p.0 q.0, all_made i (suc n) defs rs made p.1 q.1)

-- rows can be added to each of them
pub refolds_can : (i : Image) (f : ℕ → List Row) (n : ℕ) (defs : List ViewDef) (rs : List (Option GroupRebuild)) → EachFrom (AreRefolds i f) n defs rs → AllByRecursion CanTake rs
refolds_can i f n [] [] p = tt
refolds_can i f n [] (a ∷ rs) p = absurd p
refolds_can i f n (def ∷ defs) [] p = absurd p
refolds_can i f n (def ∷ defs) (None ∷ rs) p = (tt, refolds_can i f (suc n) defs rs p.1)
refolds_can i f n (def ∷ defs) (Some a ∷ rs) p = ((f def.table, p.0.1.taken), refolds_can i f (suc n) defs rs p.1)

-- one of them is over a table if and only if an aggregate over it was refreshed
over_is : (f : ℕ → List Row) (t : ℕ) (def : ViewDef) (kept : SavedView) (a : Option GroupRebuild) → IsRefoldOf f def kept a → is_over t a ≡ (was_refreshed kept && t == def.table)
over_is f t def kept None p = sym (ap (λ b. b && t == def.table) p)
over_is f t def kept (Some a) p = ap (λ u. t == u) p.1.table_is ∙ sym (ap (λ b. b && t == def.table) p.0)

get_after : {A : Type 0} (ws : List A) (x : A) (xs : List A) → slice_get (ws ++ (x ∷ xs)) (length ws) ≡ Some x
get_after [] x xs = refl
get_after (w ∷ ws) x xs = get_after ws x xs

long : {A : Type 0} (ws : List A) (x : A) → length (ws ++ (x ∷ [])) ≡ suc (length ws)
long [] x = refl
long (w ∷ ws) x = ap suc (long ws x)

regroup : {A : Type 0} (ws : List A) (x : A) (xs : List A) → (ws ++ (x ∷ [])) ++ xs ≡ ws ++ (x ∷ xs)
regroup ws x xs = append_assoc ws (x ∷ []) xs

fed_from : (f : ℕ → List Row) (t : ℕ) (front vs : List SavedView) (defs : List ViewDef) (rs : List (Option GroupRebuild)) → length vs ≡ length defs
    → EachFrom (λ n def a. IsRefoldOf f def (unwrap_or (slice_get (front ++ vs) n) nothing_saved) a) (length front) defs rs → list_any (is_over t) rs ≡ feeds t defs vs
fed_from f t front [] [] [] e p = refl
fed_from f t front (v ∷ vs) [] rs e p = absurd (omega (arith, e))
fed_from f t front [] (def ∷ defs) rs e p = absurd (omega (arith, e))
fed_from f t front [] [] (a ∷ rs) e p = absurd p
fed_from f t front (v ∷ vs) (def ∷ defs) [] e p = absurd p
fed_from f t front (v ∷ vs) (def ∷ defs) (a ∷ rs) e p =
    let own : IsRefoldOf f def v a = subst (λ (o : Option SavedView). IsRefoldOf f def (unwrap_or o nothing_saved) a) (get_after front v vs) p.0 in
    let Q : List SavedView → ℕ → Type 0 = λ all k. EachFrom (λ n def a. IsRefoldOf f def (unwrap_or (slice_get all n) nothing_saved) a) k defs rs in
    let rest = subst (λ k. Q ((front ++ v ∷ []) ++ vs) k) (sym (long front v)) (subst (λ all. Q all (suc (length front))) (sym (regroup front v vs)) p.1) in
    ap (λ b. b || list_any (is_over t) rs) (over_is f t def v a own) ∙ ap (λ b. (was_refreshed v && t == def.table) || b) (fed_from f t (front ++ v ∷ []) vs defs rs (omega (arith, e)) rest)

pub fed : (i : Image) (f : ℕ → List Row) (t : ℕ) (defs : List ViewDef) (rs : List (Option GroupRebuild)) → length i.views ≡ length defs → Each (AreRefolds i f) defs rs → list_any (is_over t) rs ≡ feeds t defs i.views
fed i f t defs rs e p = fed_from f t [] i.views defs rs e p

-- the groups of an aggregate among the finished ones
refolded_from : (i : Image) (k n : ℕ) (defs : List ViewDef) (made : List (List Group)) (def : ViewDef) (groups : List Group) → EachFrom (AreRefolded i) k defs made → slice_get defs n ≡ Some def → groups ≡ get_or made n groups → IsRefolded i def (saved_view (k + n) i) groups
refolded_from i k n [] made def groups each there is = absurd (cc)
refolded_from i k n (d ∷ defs) [] def groups each there is = absurd each
refolded_from i k zero (d ∷ defs) (m ∷ made) def groups each there is =
    let same : d ≡ def = cc in
    let here : k ≡ k + 0 = omega arith in
    subst (λ j. IsRefolded i def (saved_view j i) groups) here (subst (λ (gs : List Group). IsRefolded i def (saved_view k i) gs) (sym is) (subst (λ (x : ViewDef). IsRefolded i x (saved_view k i) m) same each.0))
refolded_from i k (suc n) (d ∷ defs) (m ∷ made) def groups each there is =
    let here : suc k + n ≡ k + suc n = omega arith in
    subst (λ j. IsRefolded i def (saved_view j i) groups) here (refolded_from i (suc k) n defs made def groups each.1 there is)

pub refolded_at : (i : Image) (n : ℕ) (defs : List ViewDef) (made : List (List Group)) (def : ViewDef) (groups : List Group) → Each (AreRefolded i) defs made → slice_get defs n ≡ Some def → groups ≡ get_or made n groups → IsRefolded i def (saved_view n i) groups
refolded_at i n defs made def groups each there is =
    let here : 0 + n ≡ n = omega arith in
    subst (λ j. IsRefolded i def (saved_view j i) groups) here (refolded_from i 0 n defs made def groups each there is)

-- the contents of a vector after all of it was changed as a slice
pub whole_slice : (n : ℕ) (old new : List (Option GroupRebuild)) → n ≡ length old → length old ≡ length new → take n (new ++ drop (length new) old) ≡ new
whole_slice n old new long same =
    ap (λ more. take n (new ++ more)) (drop_all (length new) old (omega (arith, same))) ∙ ap (take n) (append-nil new) ∙ take_all n new (omega (arith, long, same))

-- the rows of a first event, and of the others
pub first_then : (e : Event) (es : List Event) (t : ℕ) → appended_over t (e ∷ es) ≡ appended_over t (e ∷ []) ++ appended_over t es
first_then e es t = over_cons t e es

-- steps of a first event, and of the others
pub then_read : {T E : Type 0} (r : Result T E) (m n k old mid new : ℕ) → old < 2 ^ 64 → mid ≡ raised_by m old → Ticks r n mid new → k ≡ m + n → Ticks r k old new
then_read (Ok x) m n k old mid new small first then sum = omega (arith, small, first, then, sum)
then_read (Err e) m n k old mid new small first then sum = (omega (arith, small, first, then.0), omega (arith, first, then.1, sum))

pub same_table : (op : Op) (t : ℕ) (rows items : List Row) (olds news : List (Option GroupRebuild)) → op ≡ Insert t rows → items ≡ rows → AllZip (TakesBy (rows_of t items)) olds news → AllZip (TakesBy (λ u. appended_by u op)) olds news
same_table op t rows items olds news is same takes =
    subst (λ (o : Op). AllZip (TakesBy (λ u. appended_by u o)) olds news) (sym is) (subst (λ (more : List Row). AllZip (TakesBy (rows_of t more)) olds news) same takes)

-- a list by its first item and the others
pub first_and : {X : Type 0} (xs rest : List X) (x : X) → 1 ≤ length xs → rest ≡ take (length xs - 1) (drop 1 xs) → x ≡ get_or xs 0 x → xs ≡ x ∷ rest
first_and [] rest x some e f = absurd (omega (arith, some))
first_and (y ∷ ys) rest x some e f =
    let all : take (length (y ∷ ys) - 1) ys ≡ ys = take_all (length (y ∷ ys) - 1) ys (omega arith) in
    ap (λ z. z ∷ ys) (sym f) ∙ ap (λ more. x ∷ more) (sym (e ∙ all))

-- the one operation of a commit
pub one_op : (event : Event) (ops items : List Op) (op : Op) → event ≡ Commit ops → items ≡ ops → 1 ≤ length items → length items < 2 → op ≡ get_or items 0 op → (t : ℕ) → appended_by t op ≡ appended_over t (event ∷ [])
one_op event ops [] op is same some few at t = absurd (omega (arith, some))
one_op event ops (o ∷ []) op is same some few at t =
    ap (appended_by t) at ∙ sym (append-nil (appended_by t o)) ∙ sym (append-nil (appended_by t o ++ []))
    ∙ ap (λ (e : Event). appended_over t (e ∷ [])) (ap Commit same ∙ sym is)
one_op event ops (o ∷ p ∷ items) op is same some few at t = absurd (omega (arith, few))

pub same_takes : (f g : ℕ → List Row) (olds news : List (Option GroupRebuild)) → ((t : ℕ) → f t ≡ g t) → AllZip (TakesBy f) olds news → AllZip (TakesBy g) olds news
same_takes f g olds news same takes = subst (λ (h : ℕ → List Row). AllZip (TakesBy h) olds news) (λ k t. same t k) takes

-- a count that rose by this many
pub ticks_of : {T E : Type 0} (r : Result T E) (n old new : ℕ) → old < 2 ^ 64 → new ≡ raised_by n old → Ticks r n old new
ticks_of (Ok x) n old new small is = is
ticks_of (Err e) n old new small is = (omega (arith, small, is), omega (arith, is))
