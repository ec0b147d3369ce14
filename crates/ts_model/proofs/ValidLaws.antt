-- What a valid image is, part by part.
use Rattle.std.proofs.Common.{◌≡◌, ℕ, zero, suc, ◌<◌, ◌≤◌, Bool, true, false, ◌&&◌, ◌||◌, not, cond, nat_lt, nat_le, ◌==◌, List, [], ◌∷◌, map, filter, length, ℤ, ◌-ℤ◌, ◌≤ℤ◌, int_lt, int_le, Option, Some, None, sym, refl, ap, ◌∙◌, subst, arith}
use Rattle.std.specs.Prelude.{IfSome, is_some, unwrap_or, slice_get}
use Rattle.std.specs.List.{list_all, list_any, AllByRecursion}
use Rattle.std.specs.Ordering.{int_eq, is_lt, nat_cmp}
use Rattle.std.specs.declared.cmp.Ordering.{Ordering}
use Rattle.std.proofs.lemmas.Bool.{true≢false, and_parts, and_left, and_right, or_parts, cond-false, cond-true, ltb-true, leb-true, le-leb, eqb-true}
use Rattle.std.proofs.lemmas.Int.{ints}
use Rattle.std.specs.Int.{int_max}
use Rattle.ts_num.specs.Aggregates.{greater}
use Rattle.ts_bucket.specs.Bucket.{IsWidth, holds, is_bucket, bucket_of, min_time, max_time}
use Rattle.ts_bucket.specs.Ranges.{lies_in}
use Rattle.ts_bucket.specs.Spans.{in_span}
use Rattle.ts_bucket.specs.WholeSpans.{is_below, IsMark}
use Rattle.ts_bucket.specs.declared.spans.Span.{Span}
use Rattle.ts_bucket.specs.declared.widths.Width.{Width}
use Rattle.ts_bucket.proofs.BucketLaws.{holds-one}
use Rattle.ts_schema.proofs.Cases.{int_lt-true, int_le-true}
use Rattle.ts_schema.specs.declared.rows.Row.{Row}
use Rattle.ts_schema.specs.Conditions.{passes_all}
use Rattle.partial_agg.specs.declared.groups.Group.{Group}
use Rattle.ts_model.specs.declared.images.Image.{Image}
use Rattle.ts_model.specs.declared.images.SavedGroup.{SavedGroup}
use Rattle.ts_model.specs.declared.images.SavedLast.{SavedLast}
use Rattle.ts_model.specs.declared.images.SavedView.{SavedView}
use Rattle.ts_model.specs.declared.refreshes.Waiting.{Waiting as WaitingRefresh}
use Rattle.ts_model.specs.declared.rosters.Roster.{Roster}
use Rattle.ts_model.specs.declared.views.Fold.{Fold}
use Rattle.ts_model.specs.declared.views.ViewDef.{ViewDef}
use Rattle.ts_model.specs.Saved.{saved_view, last_hi, span_among, pending_among, nothing_saved, pos_in, groups_among, group_of, appended_over}
use Rattle.ts_model.specs.Roster.{IsOf, no_relations, view_of}
use Rattle.ts_model.specs.Rows.{in_order}
use Rattle.ts_model.specs.declared.refreshes.Pending.{Pending}
use Rattle.ts_model.specs.declared.refreshes.Pending.TheVariants.{Unknown}
use Rattle.ts_model.specs.History.{resumed}
use Rattle.ts_model.specs.Pending.{is_known, pending}
use Rattle.ts_model.specs.Refreshes.{span_of_cut}
use Rattle.ts_model.specs.Scratch.{bucket_rows}
use Rattle.ts_model.specs.Limits.{last_position}
use Rattle.ts_model.specs.Sound.{span_fits}
use Rattle.ts_model.specs.Laws.{Rises}
use Rattle.ts_model.specs.Valid.{all_rise, make_relations, hold_rows, lasts_fit, dirty_fits, groups_fit, mark_fits, row_marked, view_kept, views_kept, is_number, waiting_fits, done_fits, image_roster, valid}

-- the rows of a table by an image
abbrev pub image_rows : Image → ℕ → List Row
image_rows i t = in_order (appended_over t i.rows)

pub record IsValid (i : Image) : Type 0 where
  pub bounded : nat_le i.pos last_position ≡ true
  pub relations : make_relations no_relations i.roster ≡ true
  pub rows : hold_rows (image_roster i) 0 i.rows ≡ true
  pub views : views_kept i.pos (image_rows i) (image_roster i).views i.views ≡ true
  pub waiting : waiting_fits (image_roster i) i.pos i.waiting ≡ true
  pub done : done_fits i.pos i.waiting i.done ≡ true

pub valid_is : (i : Image) → valid i ≡ true → IsValid i
valid_is i ok =
    let done = and_parts _ (done_fits i.pos i.waiting i.done) ok in
    let waiting = and_parts _ (waiting_fits (image_roster i) i.pos i.waiting) done.0 in
    let views = and_parts _ (views_kept i.pos (image_rows i) (image_roster i).views i.views) waiting.0 in
    let rows = and_parts _ (hold_rows (image_roster i) 0 i.rows) views.0 in
    let relations = and_parts (nat_le i.pos last_position) (make_relations no_relations i.roster) rows.0 in
    record { bounded = relations.0; relations = relations.1; rows = rows.1; views = views.1; waiting = waiting.1; done = done.1 }

-- ---- what is kept of an aggregate

-- what is true of nothing kept, and of what is kept of each aggregate, is true of what is kept at a place
kept_at : (P : Option ViewDef → SavedView → Type 0) (p : ℕ) (rows_of : ℕ → List Row) (defs : List ViewDef) (vs : List SavedView) (n : ℕ) → P None nothing_saved → ((def : ViewDef) (v : SavedView) → view_kept p def (rows_of def.table) v ≡ true → P (Some def) v) → views_kept p rows_of defs vs ≡ true → P (slice_get defs n) (unwrap_or (slice_get vs n) nothing_saved)
kept_at P p rows_of [] [] n none some e = none
kept_at P p rows_of [] (v ∷ vs) n none some e = absurd (true≢false (sym e))
kept_at P p rows_of (def ∷ defs) [] n none some e = absurd (true≢false (sym e))
kept_at P p rows_of (def ∷ defs) (v ∷ vs) zero none some e = some def v (and_parts (view_kept p def (rows_of def.table) v) _ e).0
kept_at P p rows_of (def ∷ defs) (v ∷ vs) (suc n) none some e = kept_at P p rows_of defs vs n none some (and_parts (view_kept p def (rows_of def.table) v) _ e).1

pub kept_of : (n : ℕ) (i : Image) (P : Option ViewDef → SavedView → Type 0) → valid i ≡ true → P None nothing_saved → ((def : ViewDef) (v : SavedView) → view_kept i.pos def (image_rows i def.table) v ≡ true → P (Some def) v) → P (view_of (image_roster i) n) (saved_view n i)
kept_of n i P ok none some = kept_at P i.pos (image_rows i) (image_roster i).views i.views n none some (valid_is i ok).views

-- there is a mark, and x is at or below it
abbrev pub AtMost : ℤ → Option ℤ → Type 0
AtMost x None = ⊥
AtMost x (Some y) = x ≤ℤ y

pub at_most_here : (x : ℤ) (o : Option ℤ) → AtMost x (greater (Some x) o)
at_most_here x None = omega (arith, ints)
at_most_here x (Some y) = grind (arith, ints)

pub at_most_left : (x : ℤ) (a b : Option ℤ) → AtMost x a → AtMost x (greater a b)
at_most_left x None b m = absurd m
at_most_left x (Some y) None m = m
at_most_left x (Some y) (Some z) m = up x y z m
  where
    up : (x y z : ℤ) → x ≤ℤ y → x ≤ℤ int_max y z
    up x y z l = grind (arith, ints)

pub at_most_right : (x : ℤ) (a b : Option ℤ) → AtMost x b → AtMost x (greater a b)
at_most_right x None b m = m
at_most_right x (Some y) None m = absurd m
at_most_right x (Some y) (Some z) m = up x y z m
  where
    up : (x y z : ℤ) → x ≤ℤ z → x ≤ℤ int_max y z
    up x y z l = grind (arith, ints)

-- a bucket with a last refresh lies in a span of whole buckets, and that refresh is below the image
pub record LastsAt (def : ViewDef) (p : ℕ) (ls : List SavedLast) (b : ℤ) (s : ℕ) : Type 0 where
  pub last : SavedLast
  pub inside : in_span last.span b ≡ true
  pub fits : span_fits last.span (Some def) ≡ true
  pub at : last.pos ≡ s
  pub below : s < p
  pub ends : AtMost last.span.hi (last_hi ls)

lasts_at : (def : ViewDef) (p : ℕ) (ls : List SavedLast) (b : ℤ) (s : ℕ) → list_all (λ l. span_fits l.span (Some def) && nat_lt l.pos p) ls ≡ true → pos_in ls b ≡ Some s → LastsAt def p ls b s
lasts_at def p [] b s e f = absurd (cc)
lasts_at def p (l ∷ ls) b s e f =
    let parts = and_parts (span_fits l.span (Some def) && nat_lt l.pos p) (list_all (λ l. span_fits l.span (Some def) && nat_lt l.pos p) ls) e in
    elim (in_span l.span b) as (λ t. in_span l.span b ≡ t → cond t (Some l.pos) (pos_in ls b) ≡ Some s → LastsAt def p (l ∷ ls) b s) [
      | true ↦ λ inside g.
          let fits = and_parts (span_fits l.span (Some def)) (nat_lt l.pos p) parts.0 in
          let at : l.pos ≡ s = cc in
          record { last = l; inside = inside; fits = fits.0; at = at; below = subst (λ k. k < p) at (ltb-true l.pos p fits.1); ends = at_most_here l.span.hi (last_hi ls) }
      | false ↦ λ _ g.
          let rest = lasts_at def p ls b s parts.1 g in
          record { last = rest.last; inside = rest.inside; fits = rest.fits; at = rest.at; below = rest.below; ends = at_most_right rest.last.span.hi (Some l.span.hi) (last_hi ls) rest.ends }
    ] refl f

kept_lasts : (p : ℕ) (def : ViewDef) (rows : List Row) (v : SavedView) → view_kept p def rows v ≡ true → (b : ℤ) (s : ℕ) → pos_in v.lasts b ≡ Some s → LastsAt def p v.lasts b s
kept_lasts p def rows v e b s f =
    let rows_marked = and_parts _ (list_all (row_marked def.fold v) rows) e in
    let groups_marked = and_parts _ (list_all (λ g. is_below g.start v.mark) v.groups) rows_marked.0 in
    let marks = and_parts _ (mark_fits def.fold.width v.mark) groups_marked.0 in
    let groups = and_parts _ (groups_fit def v.dirty v.groups) marks.0 in
    let ranges = and_parts (lasts_fit def p v.lasts) (dirty_fits def v.lasts v.dirty) groups.0 in
    lasts_at def p v.lasts b s (and_parts (list_all (λ l. span_fits l.span (Some def) && nat_lt l.pos p) v.lasts) _ ranges.0).0 f

-- each last refresh is below the image
pub lasts_below : (n : ℕ) (i : Image) → valid i ≡ true → (b : ℤ) (s : ℕ) → pos_in (saved_view n i).lasts b ≡ Some s → s < i.pos
lasts_below n i ok =
    kept_of n i (λ o v. (b : ℤ) (s : ℕ) → pos_in v.lasts b ≡ Some s → s < i.pos) ok
    (λ b s e. absurd (cc))
    (λ def v kept b s e. (kept_lasts i.pos def (image_rows i def.table) v kept b s e).below)

-- ---- the mark

mark_is : (w : Width) (o : Option ℤ) → mark_fits w o ≡ true → IfSome o (IsMark w)
mark_is w None e = tt
mark_is w (Some m) e =
    let most = and_parts _ (int_le (m -ℤ w.step) max_time) e in
    let least = and_parts (is_bucket w m) (int_lt min_time m) most.0 in
    record { ends = least.0; above_a_time = int_lt-true min_time m least.1; starts_at_or_below_a_time = int_le-true (m -ℤ w.step) max_time most.1 }

no_groups : (mark : Option ℤ) (gs : List SavedGroup) (b : ℤ) → list_all (λ (g : SavedGroup). is_below g.start mark) gs ≡ true → is_below b mark ≡ false → groups_among gs b ≡ []
no_groups mark [] b e above = refl
no_groups mark (g ∷ gs) b e above =
    let parts = and_parts (is_below g.start mark) (list_all (λ (g : SavedGroup). is_below g.start mark) gs) e in
    elim (int_eq g.start b) as (λ t. int_eq g.start b ≡ t → map group_of (cond t (g ∷ filter (λ g. int_eq g.start b) gs) (filter (λ g. int_eq g.start b) gs)) ≡ []) [
      | true ↦ λ here.
          let at : g.start ≡ b = same_start g.start b here in
          absurd (true≢false (sym parts.0 ∙ ap (λ c. is_below c mark) at ∙ above))
      | false ↦ λ _. no_groups mark gs b parts.1 above
    ] refl
  where
    same_start : (x y : ℤ) → int_eq x y ≡ true → x ≡ y
    same_start x y e = grind (arith, ints)

no_rows : (fold : Fold) (v : SavedView) (rows : List Row) (b : ℤ) → IsWidth fold.width → is_bucket fold.width b ≡ true → is_some (pos_in v.lasts b) ≡ true → lies_in v.dirty b ≡ false → is_below b v.mark ≡ false → list_all (row_marked fold v) rows ≡ true → bucket_rows fold b rows ≡ []
no_rows fold v [] b width bucket last clean above e = refl
no_rows fold v (row ∷ rows) b width bucket last clean above e =
    let parts = and_parts (row_marked fold v row) (list_all (row_marked fold v) rows) e in
    elim (holds fold.width b row.at && passes_all row fold.tests) as (λ t. (holds fold.width b row.at && passes_all row fold.tests) ≡ t → cond t (row ∷ bucket_rows fold b rows) (bucket_rows fold b rows) ≡ []) [
      | true ↦ λ held.
          let both = and_parts (holds fold.width b row.at) (passes_all row fold.tests) held in
          let M : ℤ → Bool → Type 0 = λ c p. (not (p && is_some (pos_in v.lasts c) && not (lies_in v.dirty c)) || is_below c v.mark) ≡ true in
          let here : M b (passes_all row fold.tests) = subst (λ c. M c (passes_all row fold.tests)) (sym (holds-one fold.width b row.at width bucket both.0)) parts.0 in
          let none : (not (passes_all row fold.tests && is_some (pos_in v.lasts b) && not (lies_in v.dirty b)) || is_below b v.mark) ≡ false = all_of (passes_all row fold.tests) (is_some (pos_in v.lasts b)) (lies_in v.dirty b) (is_below b v.mark) both.1 last clean above in
          absurd (true≢false (sym here ∙ none))
      | false ↦ λ _. no_rows fold v rows b width bucket last clean above parts.1
    ] refl
  where
    all_of : (p l d m : Bool) → p ≡ true → l ≡ true → d ≡ false → m ≡ false → (not (p && l && not d) || m) ≡ false
    all_of true true false false a b c d = refl
    all_of false l dirty m a b c d = absurd (true≢false (sym a))
    all_of true false dirty m a b c d = absurd (true≢false (sym b))
    all_of true true true m a b c d = absurd (true≢false c)
    all_of true true false true a b c d = absurd (true≢false d)

-- what is kept of an aggregate with this table and this grouping, if it exists
pub record KeptFacts (def : ViewDef) (i : Image) (v : SavedView) : Type 0 where
  pub lasts : (b : ℤ) (s : ℕ) → pos_in v.lasts b ≡ Some s → LastsAt def i.pos v.lasts b s
  pub marked : IfSome v.mark (IsMark def.fold.width)
  -- no saved group, and no row of a bucket that isn't dirty, is at or above the mark
  pub groups_below : (b : ℤ) → is_below b v.mark ≡ false → groups_among v.groups b ≡ []
  pub rows_below : (b : ℤ) → IsWidth def.fold.width → is_bucket def.fold.width b ≡ true → is_some (pos_in v.lasts b) ≡ true
      → lies_in v.dirty b ≡ false → is_below b v.mark ≡ false → bucket_rows def.fold b (image_rows i def.table) ≡ []

no_facts : (def : ViewDef) (i : Image) → KeptFacts def i nothing_saved
no_facts def i = record {
  lasts = λ b s e. absurd (cc);
  marked = tt;
  groups_below = λ b e. refl;
  rows_below = λ b width bucket last clean above. absurd (true≢false (sym last));
}

facts_from : (def found : ViewDef) (i : Image) (v : SavedView) → found.fold ≡ def.fold → view_kept i.pos found (image_rows i def.table) v ≡ true → KeptFacts def i v
facts_from def found i v same_fold kept =
    let e : view_kept i.pos (record found { fold = def.fold }) (image_rows i def.table) v ≡ true = subst (λ f. view_kept i.pos (record found { fold = f }) (image_rows i def.table) v ≡ true) same_fold kept in
    let rows_marked = and_parts _ (list_all (row_marked def.fold v) (image_rows i def.table)) e in
    let groups_marked = and_parts _ (list_all (λ g. is_below g.start v.mark) v.groups) rows_marked.0 in
    let marks = and_parts _ (mark_fits def.fold.width v.mark) groups_marked.0 in
    record {
      lasts = λ b s f. kept_lasts i.pos def (image_rows i def.table) v e b s f;
      marked = mark_is def.fold.width v.mark marks.1;
      groups_below = λ b above. no_groups v.mark v.groups b groups_marked.1 above;
      rows_below = λ b width bucket last clean above. no_rows def.fold v (image_rows i def.table) b width bucket last clean above rows_marked.1;
    }

pub kept_facts : (n : ℕ) (def : ViewDef) (i : Image) → valid i ≡ true → IsOf def (view_of (image_roster i) n) → KeptFacts def i (saved_view n i)
kept_facts n def i ok is =
    kept_of n i (λ o v. IsOf def o → KeptFacts def i v) ok
    (λ _. no_facts def i)
    (λ found v kept is. facts_from def found i v is.1 (subst (λ t. view_kept i.pos found (image_rows i t) v ≡ true) is.0 kept))
    is

-- ---- refreshes that wait

-- a refresh that waits has a number up to the image's position, and a span of whole buckets of its aggregate
pub record AmongAt (r : Roster) (p n k : ℕ) (span : Span) : Type 0 where
  pub numbered : k ≤ p
  pub positive : 0 < k
  pub fits : span_fits span (view_of r n) ≡ true

among_in : (r : Roster) (p n : ℕ) (ws : List WaitingRefresh) (k : ℕ) (span : Span) → list_all (λ (w : WaitingRefresh). is_number p w.cut && span_fits w.span (view_of r w.view)) ws ≡ true → span_among n ws k ≡ Some span → AmongAt r p n k span
among_in r p n [] k span e f = absurd (cc)
among_in r p n (w ∷ ws) k span e f =
    let parts = and_parts (is_number p w.cut && span_fits w.span (view_of r w.view)) (list_all (λ (w : WaitingRefresh). is_number p w.cut && span_fits w.span (view_of r w.view)) ws) e in
    elim (k == w.cut && w.view == n) as (λ t. (k == w.cut && w.view == n) ≡ t → cond t (Some w.span) (span_among n ws k) ≡ Some span → AmongAt r p n k span) [
      | true ↦ λ here g.
          let both = and_parts (k == w.cut) (w.view == n) here in
          let number : k ≡ w.cut = eqb-true k w.cut both.0 in
          let view : w.view ≡ n = eqb-true w.view n both.1 in
          let same_span : w.span ≡ span = cc in
          let fits = and_parts (is_number p w.cut) (span_fits w.span (view_of r w.view)) parts.0 in
          let bounds = and_parts (nat_lt 0 w.cut) (nat_le w.cut p) fits.0 in
          let l : w.cut ≤ p = leb-true w.cut p bounds.1 in
          let z : 0 < w.cut = ltb-true 0 w.cut bounds.0 in
          record {
            numbered = omega arith;
            positive = omega arith;
            fits = subst (λ v. span_fits span (view_of r v) ≡ true) view (subst (λ s. span_fits s (view_of r w.view) ≡ true) same_span fits.1);
          }
      | false ↦ λ _ g. among_in r p n ws k span parts.1 g
    ] refl f

pub among_at : (i : Image) (n k : ℕ) (span : Span) → valid i ≡ true → span_among n i.waiting k ≡ Some span → AmongAt (image_roster i) i.pos n k span
among_at i n k span ok e = among_in (image_roster i) i.pos n i.waiting k span (and_parts (list_all (λ (w : WaitingRefresh). is_number i.pos w.cut && span_fits w.span (view_of (image_roster i) w.view)) i.waiting) _ (valid_is i ok).waiting).0 e

-- each is less than every later one
pub rises_is : {K : Type 0} (cmp : K → K → Ordering) (ks : List K) → all_rise cmp ks ≡ true → Rises cmp ks
rises_is cmp [] e = tt
rises_is cmp (k ∷ ks) e = let parts = and_parts (list_all (λ y. is_lt (cmp k y)) ks) (all_rise cmp ks) e in (parts.0, rises_is cmp ks parts.1)

pub waiting_rising : (i : Image) → valid i ≡ true → Rises nat_cmp (map (λ (w : WaitingRefresh). w.cut) i.waiting)
waiting_rising i ok = rises_is nat_cmp (map (λ (w : WaitingRefresh). w.cut) i.waiting) (and_parts _ (all_rise nat_cmp (map (λ (w : WaitingRefresh). w.cut) i.waiting)) (valid_is i ok).waiting).1

numbers_upto : (r : Roster) (p : ℕ) (ws : List WaitingRefresh) → list_all (λ (w : WaitingRefresh). is_number p w.cut && span_fits w.span (view_of r w.view)) ws ≡ true → AllByRecursion (λ (w : WaitingRefresh). w.cut ≤ p) ws
numbers_upto r p [] e = tt
numbers_upto r p (w ∷ ws) e =
    let parts = and_parts (is_number p w.cut && span_fits w.span (view_of r w.view)) (list_all (λ (w : WaitingRefresh). is_number p w.cut && span_fits w.span (view_of r w.view)) ws) e in
    let fits = and_parts (is_number p w.cut) (span_fits w.span (view_of r w.view)) parts.0 in
    (leb-true w.cut p (and_parts (nat_lt 0 w.cut) (nat_le w.cut p) fits.0).1, numbers_upto r p ws parts.1)

pub waiting_upto : (i : Image) → valid i ≡ true → AllByRecursion (λ (w : WaitingRefresh). w.cut ≤ i.pos) i.waiting
waiting_upto i ok = numbers_upto (image_roster i) i.pos i.waiting (and_parts (list_all (λ (w : WaitingRefresh). is_number i.pos w.cut && span_fits w.span (view_of (image_roster i) w.view)) i.waiting) _ (valid_is i ok).waiting).0

-- ---- the outcome of a refresh, by an image

-- a span that it states is one of a waiting refresh, with a number up to its position
pub span_within : (i : Image) (n k : ℕ) (span : Span) → span_of_cut n (resumed i) k ≡ Some span → (k ≤ i.pos) × (span_among n i.waiting k ≡ Some span)
span_within i n k span e =
    elim (nat_le k i.pos) as (λ t. nat_le k i.pos ≡ t → cond t (span_among n i.waiting k) None ≡ Some span → (k ≤ i.pos) × (span_among n i.waiting k ≡ Some span)) [
      | true ↦ λ l f. (leb-true k i.pos l, f)
      | false ↦ λ _ f. absurd (cc)
    ] refl e

-- and it states each of them
pub span_told : (i : Image) (n k : ℕ) → k ≤ i.pos → span_of_cut n (resumed i) k ≡ span_among n i.waiting k
span_told i n k l = cond-true (nat_le k i.pos) (span_among n i.waiting k) None (le-leb k i.pos l)

-- what is known of a refresh is in the lists
pub known_among : (i : Image) (k : ℕ) (q : Pending) → is_known q ≡ true → pending (resumed i) k ≡ q → pending_among i.waiting i.done k ≡ q
known_among i k q known e =
    elim (nat_le k i.pos) as (λ t. cond t (pending_among i.waiting i.done k) Unknown ≡ q → pending_among i.waiting i.done k ≡ q) [
      | true ↦ λ f. f
      | false ↦ λ f. absurd (true≢false (sym known ∙ sym (ap is_known f)))
    ] e

-- ---- a missing aggregate

pub absent_kept : (n : ℕ) (i : Image) → valid i ≡ true → view_of (image_roster i) n ≡ None → saved_view n i ≡ nothing_saved
absent_kept n i ok none = kept_of n i (λ o v. o ≡ None → v ≡ nothing_saved) ok (λ _. refl) (λ def v kept e. absurd (cc)) none
