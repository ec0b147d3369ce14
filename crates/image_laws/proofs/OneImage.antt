-- A history has at most one image.
use Rattle.std.proofs.Common.{◌≡◌, ℕ, zero, suc, ◌<◌, ◌≤◌, Bool, true, false, ◌&&◌, cond, List, [], ◌∷◌, map, filter, length, ℤ, ◌+ℤ◌, ◌≤ℤ◌, ◌<ℤ◌, int_lt, Option, Some, None, sym, refl, ap, ◌∙◌, subst, arith}
use Rattle.std.specs.Prelude.{slice_get, unwrap_or}
use Rattle.std.specs.List.{list_all, AllByRecursion}
use Rattle.std.specs.Ordering.{int_eq, int_cmp, is_lt, ordering_then}
use Rattle.std.specs.declared.cmp.Ordering.{Ordering}
use Rattle.std.specs.declared.cmp.Ordering.TheVariants.{Less, Equal, Greater}
use Rattle.std.proofs.lemmas.Bool.{true≢false, and_parts}
use Rattle.std.proofs.lemmas.Int.{ints}
use Rattle.ts_bucket.specs.Bucket.{is_bucket}
use Rattle.ts_bucket.specs.Ranges.{IsWholeRange}
use Rattle.ts_bucket.specs.Spans.{in_span}
use Rattle.ts_bucket.specs.declared.spans.Span.{Span}
use Rattle.ts_bucket.specs.declared.widths.Width.{Width}
use Rattle.ts_bucket.proofs.SpanLaws.{in_span-from_ends, in_span-ends}
use Rattle.partial_agg.specs.Groups.{group_cmp}
use Rattle.partial_agg.specs.Summaries.{Summary}
use Rattle.partial_agg.specs.declared.groups.Group.{Group}
use Rattle.ts_schema.specs.Rows.{values_cmp}
use Rattle.ts_model.specs.declared.images.Image.{Image}
use Rattle.ts_model.specs.declared.images.SavedGroup.{SavedGroup}
use Rattle.ts_model.specs.declared.images.SavedLast.{SavedLast}
use Rattle.ts_model.specs.declared.images.SavedView.{SavedView}
use Rattle.ts_model.specs.declared.images.Sums.{Sums}
use Rattle.ts_model.specs.declared.views.ViewDef.{ViewDef}
use Rattle.ts_model.specs.History.{History}
use Rattle.ts_model.specs.Roster.{roster, view_of}
use Rattle.ts_model.specs.Saved.{saved_view, nothing_saved, pos_in, summary_of, group_of, groups_among}
use Rattle.ts_model.specs.Valid.{all_rise}
use Rattle.image_laws.specs.Images.{LastsRise, IsSavedView, IsImage, OneImage}
use Rattle.ts_model.proofs.SameRanges.{same_ranges}
use Rattle.image_laws.proofs.ValidRanges.{lasts_from, first_in, tail_rises}
use Rattle.image_laws.proofs.ImageLaws.{saved_none}

-- ---- last refreshes

abbrev AreWhole : Width → List SavedLast → Type 0
AreWhole w ls = AllByRecursion (λ (l : SavedLast). IsWholeRange w l.span) ls

abbrev SameLasts : Width → List SavedLast → List SavedLast → Type 0
SameLasts w a b = (c : ℤ) → is_bucket w c ≡ true → pos_in a c ≡ pos_in b c

some_same : {X : Type 0} {x y : X} → Some x ≡ Some y → x ≡ y
some_same e = cc

none_some : {X : Type 0} {x : X} → (let none : Option X = None in none ≡ Some x) → ⊥
none_some e = absurd (cc)

pos_first : (w : Width) (l : SavedLast) (ls : List SavedLast) → IsWholeRange w l.span → pos_in (l ∷ ls) l.span.lo ≡ Some l.pos
pos_first w l ls whole = ap (λ t. cond t (Some l.pos) (pos_in ls l.span.lo)) (first_in w l.span whole)

-- the bucket at the end of the first range has another last refresh, or none
end_other : (w : Width) (l : SavedLast) (ls : List SavedLast) → AreWhole w (l ∷ ls) → LastsRise (l ∷ ls) → pos_in (l ∷ ls) l.span.hi ≡ Some l.pos → ⊥
end_other w l [] whole rise e =
    let out : in_span l.span l.span.hi ≡ false = past l.span in
    none_some (sym (ap (λ t. cond t (Some l.pos) None) out) ∙ e)
  where
    past : (s : Span) → in_span s s.hi ≡ false
    past s = grind (arith, ints)
end_other w l (m ∷ ls) whole rise e =
    let out : in_span l.span l.span.hi ≡ false = past l.span in
    let next : pos_in (m ∷ ls) l.span.hi ≡ Some l.pos = sym (ap (λ t. cond t (Some l.pos) (pos_in (m ∷ ls) l.span.hi)) out) ∙ e in
    let above : l.span.hi ≤ℤ m.span.lo = rise.0.above in
    let from : m.span.lo ≤ℤ l.span.hi = lasts_from w l.span.hi l.pos m ls whole.1 rise.1 next in
    let at : l.span.hi ≡ m.span.lo = omega (arith, ints) in
    let there : pos_in (m ∷ ls) l.span.hi ≡ Some m.pos = ap (pos_in (m ∷ ls)) at ∙ pos_first w m ls whole.1.0 in
    rise.0.other at (some_same (sym next ∙ there))
  where
    past : (s : Span) → in_span s s.hi ≡ false
    past s = grind (arith, ints)

-- the other ranges hold nothing of the first
none_within : (w : Width) (l : SavedLast) (ls : List SavedLast) (c : ℤ) → AreWhole w (l ∷ ls) → LastsRise (l ∷ ls) → in_span l.span c ≡ true → pos_in ls c ≡ None
none_within w l [] c whole rise inside = refl
none_within w l (m ∷ ls) c whole rise inside = by_pos (pos_in (m ∷ ls) c) refl
  where
    by_pos : (o : Option ℕ) → pos_in (m ∷ ls) c ≡ o → o ≡ None
    by_pos None e = refl
    by_pos (Some s) e =
        let above : l.span.hi ≤ℤ m.span.lo = rise.0.above in
        let from : m.span.lo ≤ℤ c = lasts_from w c s m ls whole.1 rise.1 e in
        let below : c <ℤ l.span.hi = (in_span-ends l.span c inside).1 in
        absurd (omega (arith, ints))

module _ (w : Width) (l m : SavedLast) (ls ms : List SavedLast) (whole_l : AreWhole w (l ∷ ls)) (whole_m : AreWhole w (m ∷ ms)) (rise_l : LastsRise (l ∷ ls)) (rise_m : LastsRise (m ∷ ms)) (agree : SameLasts w (l ∷ ls) (m ∷ ms)) where
  low_from : m.span.lo ≤ℤ l.span.lo
  low_from = lasts_from w l.span.lo l.pos m ms whole_m rise_m (sym (agree l.span.lo whole_l.0.starts) ∙ pos_first w l ls whole_l.0)

  pos_same : l.span.lo ≡ m.span.lo → l.pos ≡ m.pos
  pos_same e = some_same (sym (pos_first w l ls whole_l.0) ∙ agree l.span.lo whole_l.0.starts ∙ ap (pos_in (m ∷ ms)) e ∙ pos_first w m ms whole_m.0)

  high_from : l.span.lo ≡ m.span.lo → l.pos ≡ m.pos → m.span.hi ≤ℤ l.span.hi
  high_from starts same_pos =
      elim (int_lt l.span.hi m.span.hi) as (λ b. int_lt l.span.hi m.span.hi ≡ b → m.span.hi ≤ℤ l.span.hi) [
        | true ↦ λ e.
            let shorter : l.span.hi <ℤ m.span.hi = grind (arith, ints) in
            let some : l.span.lo <ℤ l.span.hi = whole_l.0.some in
            let inside : in_span m.span l.span.hi ≡ true = in_span-from_ends m.span l.span.hi (omega (arith, ints)) shorter in
            let there : pos_in (m ∷ ms) l.span.hi ≡ Some m.pos = ap (λ t. cond t (Some m.pos) (pos_in ms l.span.hi)) inside in
            absurd (end_other w l ls whole_l rise_l (agree l.span.hi whole_l.0.ends ∙ there ∙ ap Some (sym same_pos)))
        | false ↦ λ e. grind (arith, ints)
      ] refl

  rest_agree : l.span ≡ m.span → SameLasts w ls ms
  rest_agree q c bucket = by_cases (in_span l.span c) refl
    where
      by_cases : (b : Bool) → in_span l.span c ≡ b → pos_in ls c ≡ pos_in ms c
      by_cases true e = none_within w l ls c whole_l rise_l e ∙ sym (none_within w m ms c whole_m rise_m (ap (λ x. in_span x c) (sym q) ∙ e))
      by_cases false e =
          sym (ap (λ b. cond b (Some l.pos) (pos_in ls c)) e) ∙ agree c bucket ∙ ap (λ b. cond b (Some m.pos) (pos_in ms c)) (ap (λ x. in_span x c) (sym q) ∙ e)

lasts_one : (w : Width) (a b : List SavedLast) → AreWhole w a → AreWhole w b → LastsRise a → LastsRise b → SameLasts w a b → a ≡ b
lasts_one w [] [] wa wb ra rb agree = refl
lasts_one w [] (m ∷ ms) wa wb ra rb agree = absurd (none_some (agree m.span.lo wb.0.starts ∙ pos_first w m ms wb.0))
lasts_one w (l ∷ ls) [] wa wb ra rb agree = absurd (none_some (sym (agree l.span.lo wa.0.starts) ∙ pos_first w l ls wa.0))
lasts_one w (l ∷ ls) (m ∷ ms) wa wb ra rb agree =
    let back : SameLasts w (m ∷ ms) (l ∷ ls) = λ c bucket. sym (agree c bucket) in
    let low : m.span.lo ≤ℤ l.span.lo = low_from w l m ls ms wa wb ra rb agree in
    let high : l.span.lo ≤ℤ m.span.lo = low_from w m l ms ls wb wa rb ra back in
    let starts : l.span.lo ≡ m.span.lo = omega (arith, ints) in
    let at : l.pos ≡ m.pos = pos_same w l m ls ms wa wb ra rb agree starts in
    let long : m.span.hi ≤ℤ l.span.hi = high_from w l m ls ms wa wb ra rb agree starts at in
    let short : l.span.hi ≤ℤ m.span.hi = high_from w m l ms ls wb wa rb ra back (sym starts) (sym at) in
    let ends : l.span.hi ≡ m.span.hi = omega (arith, ints) in
    let spans : l.span ≡ m.span = (λ i. record { lo = starts i; hi = ends i }) in
    let rest : ls ≡ ms = lasts_one w ls ms wa.1 wb.1 (tail_rises l ls ra) (tail_rises m ms rb) (rest_agree w l m ls ms wa wb ra rb agree spans) in
    λ i. record { span = spans i; pos = at i } ∷ rest i

-- ---- groups

sums_one : (a b : List Sums) → map summary_of a ≡ map summary_of b → a ≡ b
sums_one [] [] e = refl
sums_one [] (y ∷ b) e = absurd (cc)
sums_one (x ∷ a) [] e = absurd (cc)
sums_one (x ∷ a) (y ∷ b) e =
    let first : summary_of x ≡ summary_of y = cc in
    let others : map summary_of a ≡ map summary_of b = cc in
    let rest = sums_one a b others in
    λ i. record { count = (first i).count; values = (first i).values; sum = (first i).sum; least = (first i).least; most = (first i).most } ∷ rest i

group_one : (g k : SavedGroup) → group_of g ≡ group_of k → g ≡ k
group_one g k e =
    let parts = sums_one g.parts k.parts (ap (λ (x : Group). x.parts) e) in
    λ i. record { start = (e i).start; keys = (e i).keys; parts = parts i }

itself : (b : ℤ) → int_eq b b ≡ true
itself b = grind (arith, ints)

among_first : (g : SavedGroup) (gs : List SavedGroup) → groups_among (g ∷ gs) g.start ≡ group_of g ∷ groups_among gs g.start
among_first g gs = ap (λ t. map group_of (cond t (g ∷ filter (λ x. int_eq x.start g.start) gs) (filter (λ x. int_eq x.start g.start) gs))) (itself g.start)

-- groups in order start at or above the first
starts_by : (o p : Ordering) (x y : ℤ) → int_cmp x y ≡ o → is_lt (ordering_then o p) ≡ true → x ≤ℤ y
starts_by Less p x y e l = grind (arith, ints)
starts_by Equal p x y e l = grind (arith, ints)
starts_by Greater p x y e l = absurd (true≢false (sym l))

none_low : (s : ℤ) (k : SavedGroup) (hs : List SavedGroup) → s <ℤ k.start → list_all (λ y. is_lt (group_cmp (group_of k) y)) (map group_of hs) ≡ true → groups_among hs s ≡ []
none_low s k [] l e = refl
none_low s k (x ∷ hs) l e =
    let parts = and_parts (is_lt (group_cmp (group_of k) (group_of x))) (list_all (λ y. is_lt (group_cmp (group_of k) y)) (map group_of hs)) e in
    let above : k.start ≤ℤ x.start = rising k x parts.0 in
    let other : int_eq x.start s ≡ false = apart x.start s (omega (arith, ints)) in
    ap (λ t. map group_of (cond t (x ∷ filter (λ y. int_eq y.start s) hs) (filter (λ y. int_eq y.start s) hs))) other ∙ none_low s k hs l parts.1
  where
    apart : (x s : ℤ) → s <ℤ x → int_eq x s ≡ false
    apart x s l = grind (arith, ints)

    rising : (k x : SavedGroup) → is_lt (group_cmp (group_of k) (group_of x)) ≡ true → k.start ≤ℤ x.start
    rising k x e = starts_by (int_cmp k.start x.start) (values_cmp k.keys x.keys) k.start x.start refl e

head_one : {x y : Group} {xs ys : List Group} → x ∷ xs ≡ y ∷ ys → x ≡ y
head_one e = cc

tail_one : {x y : Group} {xs ys : List Group} → x ∷ xs ≡ y ∷ ys → xs ≡ ys
tail_one e = cc

nil_cons : {x : Group} {xs : List Group} → (let none : List Group = [] in none ≡ x ∷ xs) → ⊥
nil_cons e = absurd (cc)

groups_one : (w : Width) (gs hs : List SavedGroup) → all_rise group_cmp (map group_of gs) ≡ true → all_rise group_cmp (map group_of hs) ≡ true → list_all (λ (g : SavedGroup). is_bucket w g.start) gs ≡ true → list_all (λ (g : SavedGroup). is_bucket w g.start) hs ≡ true → ((b : ℤ) → is_bucket w b ≡ true → groups_among gs b ≡ groups_among hs b) → gs ≡ hs
groups_one w [] [] rg rh wg wh agree = refl
groups_one w [] (k ∷ hs) rg rh wg wh agree = absurd (nil_cons (agree k.start (and_parts (is_bucket w k.start) _ wh).0 ∙ among_first k hs))
groups_one w (g ∷ gs) [] rg rh wg wh agree = absurd (nil_cons (sym (agree g.start (and_parts (is_bucket w g.start) _ wg).0) ∙ among_first g gs))
groups_one w (g ∷ gs) (k ∷ hs) rg rh wg wh agree =
    let own_g = and_parts (is_bucket w g.start) (list_all (λ (x : SavedGroup). is_bucket w x.start) gs) wg in
    let own_h = and_parts (is_bucket w k.start) (list_all (λ (x : SavedGroup). is_bucket w x.start) hs) wh in
    let low : k.start ≤ℤ g.start = first_low g k gs hs (and_parts _ _ rh).0 (agree g.start own_g.0) in
    let high : g.start ≤ℤ k.start = first_low k g hs gs (and_parts _ _ rg).0 (sym (agree k.start own_h.0)) in
    let starts : g.start ≡ k.start = omega (arith, ints) in
    let lists : group_of g ∷ groups_among gs g.start ≡ group_of k ∷ groups_among hs k.start = sym (among_first g gs) ∙ agree g.start own_g.0 ∙ ap (groups_among (k ∷ hs)) starts ∙ among_first k hs in
    let first : g ≡ k = group_one g k (head_one lists) in
    let rest : gs ≡ hs = groups_one w gs hs (and_parts _ _ rg).1 (and_parts _ _ rh).1 own_g.1 own_h.1 (λ b bucket. rest_same g k gs hs b first (agree b bucket)) in
    λ i. first i ∷ rest i
  where
    first_low : (g k : SavedGroup) (gs hs : List SavedGroup) → list_all (λ y. is_lt (group_cmp (group_of k) y)) (map group_of hs) ≡ true → groups_among (g ∷ gs) g.start ≡ groups_among (k ∷ hs) g.start → k.start ≤ℤ g.start
    first_low g k gs hs rise same_here =
        elim (int_lt g.start k.start) as (λ t. int_lt g.start k.start ≡ t → k.start ≤ℤ g.start) [
          | true ↦ λ e.
              let below : g.start <ℤ k.start = grind (arith, ints) in
              let other : int_eq k.start g.start ≡ false = apart k.start g.start below in
              let none : groups_among (k ∷ hs) g.start ≡ [] = ap (λ t. map group_of (cond t (k ∷ filter (λ y. int_eq y.start g.start) hs) (filter (λ y. int_eq y.start g.start) hs))) other ∙ none_low g.start k hs below rise in
              absurd (nil_cons (sym (same_here ∙ none) ∙ among_first g gs))
          | false ↦ λ e. grind (arith, ints)
        ] refl
      where
        apart : (x s : ℤ) → s <ℤ x → int_eq x s ≡ false
        apart x s l = grind (arith, ints)

    rest_same : (g k : SavedGroup) (gs hs : List SavedGroup) (b : ℤ) → g ≡ k → groups_among (g ∷ gs) b ≡ groups_among (k ∷ hs) b → groups_among gs b ≡ groups_among hs b
    rest_same g k gs hs b q e = by_case (int_eq g.start b) refl
      where
        by_case : (t : Bool) → int_eq g.start b ≡ t → groups_among gs b ≡ groups_among hs b
        by_case true at =
            let mine : groups_among (g ∷ gs) b ≡ group_of g ∷ groups_among gs b = ap (λ t. map group_of (cond t (g ∷ filter (λ y. int_eq y.start b) gs) (filter (λ y. int_eq y.start b) gs))) at in
            let theirs : groups_among (k ∷ hs) b ≡ group_of k ∷ groups_among hs b = ap (λ t. map group_of (cond t (k ∷ filter (λ y. int_eq y.start b) hs) (filter (λ y. int_eq y.start b) hs))) (ap (λ (x : SavedGroup). int_eq x.start b) (sym q) ∙ at) in
            tail_one (sym mine ∙ e ∙ theirs)
        by_case false at =
            let mine : groups_among (g ∷ gs) b ≡ groups_among gs b = ap (λ t. map group_of (cond t (g ∷ filter (λ y. int_eq y.start b) gs) (filter (λ y. int_eq y.start b) gs))) at in
            let theirs : groups_among (k ∷ hs) b ≡ groups_among hs b = ap (λ t. map group_of (cond t (k ∷ filter (λ y. int_eq y.start b) hs) (filter (λ y. int_eq y.start b) hs))) (ap (λ (x : SavedGroup). int_eq x.start b) (sym q) ∙ at) in
            sym mine ∙ e ∙ theirs

-- ---- the image

view_one : (n : ℕ) (def : ViewDef) (h : History) (u v : SavedView) → IsSavedView n def h u → IsSavedView n def h v → u ≡ v
view_one n def h u v a b =
    let w = def.fold.width in
    let lasts = lasts_one w u.lasts v.lasts a.lasts_whole b.lasts_whole a.lasts_rise b.lasts_rise (λ c bucket. a.lasts c bucket ∙ sym (b.lasts c bucket)) in
    let dirty = same_ranges w u.dirty v.dirty a.dirty_whole b.dirty_whole a.dirty_rise b.dirty_rise (λ c bucket. a.dirty c bucket ∙ sym (b.dirty c bucket)) in
    let groups = groups_one w u.groups v.groups a.groups_rise b.groups_rise a.groups_whole b.groups_whole (λ c bucket. a.groups c bucket ∙ sym (b.groups c bucket)) in
    let mark = a.mark ∙ sym b.mark in
    λ i. record { lasts = lasts i; dirty = dirty i; groups = groups i; mark = mark i }

views_one : (us vs : List SavedView) → length us ≡ length vs → ((n : ℕ) → unwrap_or (slice_get us n) nothing_saved ≡ unwrap_or (slice_get vs n) nothing_saved) → us ≡ vs
views_one [] [] e each = refl
views_one [] (v ∷ vs) e each = absurd (omega (arith, e))
views_one (u ∷ us) [] e each = absurd (omega (arith, e))
views_one (u ∷ us) (v ∷ vs) e each =
    let first : u ≡ v = each 0 in
    let rest : us ≡ vs = views_one us vs (omega (arith, e)) (λ n. each (suc n)) in
    λ i. first i ∷ rest i

pub one_image : OneImage
one_image h i j a b =
    let saved_same : (n : ℕ) → saved_view n i ≡ saved_view n j = λ n. by_view n (view_of (roster h) n) refl in
    let views = views_one i.views j.views (a.as_many ∙ sym b.as_many) saved_same in
    let pos = a.pos ∙ sym b.pos in
    let relations = a.relations ∙ sym b.relations in
    let held = a.held ∙ sym b.held in
    let waits = a.waits ∙ sym b.waits in
    let done = a.done ∙ sym b.done in
    λ k. record { pos = pos k; roster = relations k; rows = held k; views = views k; waiting = waits k; done = done k }
  where
    by_view : (n : ℕ) (o : Option ViewDef) → view_of (roster h) n ≡ o → saved_view n i ≡ saved_view n j
    by_view n None there = saved_none n h i a there ∙ sym (saved_none n h j b there)
    by_view n (Some def) there = view_one n def h (saved_view n i) (saved_view n j) (a.views n def there) (b.views n def there)
