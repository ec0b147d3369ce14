-- For each number, the waiting refreshes are what pending says of it.
use Rattle.std.proofs.Common.{◌≡◌, ℕ, suc, ◌≤◌, ◌<◌, Bool, true, false, ◌&&◌, not, cond, nat_lt, nat_le, ◌==◌, List, [], ◌∷◌, ◌++◌, map, filter, Some, None, sym, refl, ap, ◌∙◌, subst, arith}
use Rattle.std.specs.Prelude.{is_some}
use Rattle.std.specs.List.{list_all, AllByRecursion}
use Rattle.std.specs.Ordering.{is_lt, nat_cmp}
use Rattle.std.specs.declared.cmp.Ordering.TheVariants.{Less, Equal, Greater}
use Rattle.std.proofs.lemmas.Bool.{and_parts, and_from, eqb-true, cond-true, cond-false, lt-ltb}
use Rattle.std.proofs.lemmas.Bool.Decides.{nat_tests}
use Rattle.std.proofs.lemmas.List.Elements.{filter-append}
use Rattle.std.proofs.lemmas.List.{append-nil}
use Rattle.ts_bucket.specs.declared.spans.Span.{Span}
use Rattle.ts_model.specs.declared.events.Event.TheVariants.{Cut, Built}
use Rattle.ts_model.specs.declared.refreshes.Pending.{Pending}
use Rattle.ts_model.specs.declared.refreshes.Pending.TheVariants.{Waiting, Finished, Unknown}
use Rattle.ts_model.specs.declared.refreshes.Waiting.{Waiting as WaitingRefresh}
use Rattle.ts_model.specs.History.{History, start, resumed, ◌▸◌, position}
use Rattle.ts_model.specs.declared.images.Finished.{Finished as FinishedRefresh}
use Rattle.ts_model.specs.declared.images.Image.{Image}
use Rattle.ts_model.specs.Saved.{span_among, finished_among, pending_among}
use Rattle.ts_model.specs.Allowed.{all_consistent}
use Rattle.ts_model.specs.Refreshes.{span_of_cut}
use Rattle.ts_model.proofs.ValidLaws.{waiting_upto, waiting_rising}
use Rattle.ts_model.specs.Pending.{finished_by, pending, waiting}
use Rattle.ts_model.specs.Laws.{Rises}
use Rattle.ts_model.specs.RefreshLaws.{has_span, waiting_over, waiting_as, WaitingIsPending}
use Rattle.ts_schema.proofs.Cases.{same_number}

-- ---- the cuts of waiting refreshes are not after the history, and rise

abbrev UpTo : ℕ → List WaitingRefresh → Type 0
UpTo p rs = AllByRecursion (λ (r : WaitingRefresh). r.cut ≤ p) rs

up_to_more : (p : ℕ) (rs : List WaitingRefresh) → UpTo p rs → UpTo (suc p) rs
up_to_more p [] u = tt
up_to_more p (r ∷ rs) u = (omega (arith, u.0), up_to_more p rs u.1)

up_to_pushed : (p : ℕ) (rs : List WaitingRefresh) (r : WaitingRefresh) → UpTo p rs → r.cut ≤ p → UpTo p (rs ++ (r ∷ []))
up_to_pushed p [] r u l = (l, tt)
up_to_pushed p (x ∷ rs) r u l = (u.0, up_to_pushed p rs r u.1 l)

up_to_filtered : (p : ℕ) (test : WaitingRefresh → Bool) (rs : List WaitingRefresh) → UpTo p rs → UpTo p (filter test rs)
up_to_filtered p test [] u = tt
up_to_filtered p test (r ∷ rs) u = elim (test r) as (λ t. UpTo p (cond t (r ∷ filter test rs) (filter test rs))) [ true ↦ (u.0, up_to_filtered p test rs u.1) | false ↦ up_to_filtered p test rs u.1 ]

waiting_up_to : (h : History) → all_consistent h ≡ true → UpTo (position h) (waiting h)
waiting_up_to start ok = tt
waiting_up_to (resumed i) ok = waiting_upto i ok
waiting_up_to (h ▸ Cut v span) ok = up_to_pushed (suc (position h)) (waiting h) (record { cut = suc (position h); view = v; span = span }) (up_to_more (position h) (waiting h) (waiting_up_to h (and_parts (all_consistent h) _ ok).0)) (omega arith)
waiting_up_to (h ▸ Built cut snap) ok = up_to_filtered (suc (position h)) (λ r. not (r.cut == cut)) (waiting h) (up_to_more (position h) (waiting h) (waiting_up_to h (and_parts (all_consistent h) _ ok).0))
waiting_up_to (h ▸ x) ok = up_to_more (position h) (waiting h) (waiting_up_to h (and_parts (all_consistent h) _ ok).0)

abbrev cuts_of : List WaitingRefresh → List ℕ
cuts_of rs = map (λ (r : WaitingRefresh). r.cut) rs

below_pushed : (c k : ℕ) (rs : List WaitingRefresh) (r : WaitingRefresh) → c < r.cut → list_all (λ d. is_lt (nat_cmp c d)) (cuts_of rs) ≡ true → list_all (λ d. is_lt (nat_cmp c d)) (cuts_of (rs ++ (r ∷ []))) ≡ true
below_pushed c k [] r l e = and_from _ _ (ap is_lt (cond-true (nat_lt c r.cut) Less (cond (c == r.cut) Equal Greater) (lt-ltb c r.cut l))) refl
below_pushed c k (x ∷ rs) r l e =
    let parts = and_parts (is_lt (nat_cmp c x.cut)) _ e in
    and_from _ _ parts.0 (below_pushed c k rs r l parts.1)

rises_pushed : (p : ℕ) (rs : List WaitingRefresh) (r : WaitingRefresh) → p < r.cut → UpTo p rs → Rises nat_cmp (cuts_of rs) → Rises nat_cmp (cuts_of (rs ++ (r ∷ [])))
rises_pushed p [] r l u rising = (refl, tt)
rises_pushed p (x ∷ rs) r l u rising = (below_pushed x.cut p rs r (omega (arith, u.0, l)) rising.0, rises_pushed p rs r l u.1 rising.1)

below_filtered : (c : ℕ) (test : WaitingRefresh → Bool) (rs : List WaitingRefresh) → list_all (λ d. is_lt (nat_cmp c d)) (cuts_of rs) ≡ true → list_all (λ d. is_lt (nat_cmp c d)) (cuts_of (filter test rs)) ≡ true
below_filtered c test [] e = refl
below_filtered c test (r ∷ rs) e =
    let parts = and_parts (is_lt (nat_cmp c r.cut)) _ e in
    elim (test r) as (λ t. list_all (λ d. is_lt (nat_cmp c d)) (cuts_of (cond t (r ∷ filter test rs) (filter test rs))) ≡ true) [
      | true ↦ and_from _ _ parts.0 (below_filtered c test rs parts.1)
      | false ↦ below_filtered c test rs parts.1
    ]

rises_filtered : (test : WaitingRefresh → Bool) (rs : List WaitingRefresh) → Rises nat_cmp (cuts_of rs) → Rises nat_cmp (cuts_of (filter test rs))
rises_filtered test [] rising = tt
rises_filtered test (r ∷ rs) rising =
    elim (test r) as (λ t. Rises nat_cmp (cuts_of (cond t (r ∷ filter test rs) (filter test rs)))) [
      | true ↦ (below_filtered r.cut test rs rising.0, rises_filtered test rs rising.1)
      | false ↦ rises_filtered test rs rising.1
    ]

waiting_rises : (h : History) → all_consistent h ≡ true → Rises nat_cmp (cuts_of (waiting h))
waiting_rises start ok = tt
waiting_rises (resumed i) ok = waiting_rising i ok
waiting_rises (h ▸ Cut v span) ok = rises_pushed (position h) (waiting h) (record { cut = suc (position h); view = v; span = span }) (omega arith) (waiting_up_to h (and_parts (all_consistent h) _ ok).0) (waiting_rises h (and_parts (all_consistent h) _ ok).0)
waiting_rises (h ▸ Built cut snap) ok = rises_filtered (λ r. not (r.cut == cut)) (waiting h) (waiting_rises h (and_parts (all_consistent h) _ ok).0)
waiting_rises (h ▸ x) ok = waiting_rises h (and_parts (all_consistent h) _ ok).0

-- ---- the refresh with a number

abbrev numbered : ℕ → List WaitingRefresh → List WaitingRefresh
numbered k rs = filter (λ r. r.cut == k) rs

none_after : (p k : ℕ) (rs : List WaitingRefresh) → p < k → UpTo p rs → numbered k rs ≡ []
none_after p k [] l u = refl
none_after p k (r ∷ rs) l u =
    let low : r.cut ≤ p = u.0 in
    let other : (r.cut == k) ≡ false = apart r.cut k (omega arith) in
    cond-false (r.cut == k) (r ∷ numbered k rs) (numbered k rs) other ∙ none_after p k rs l u.1
  where
    apart : (c k : ℕ) → c < k → (c == k) ≡ false
    apart c k l = grind (arith, nat_tests)

-- a cut with a number that no other refresh has
same_over : (h : History) (v : ℕ) (span : Span) (k : ℕ) → (k == suc (position h)) ≡ false → (p : Pending) → waiting_as (h ▸ Cut v span) k p ≡ waiting_as h k p
same_over h v span k other (Waiting n) = ap (λ t. waiting_over k n (cond (t && v == n) (Some span) (span_of_cut n h k))) other
same_over h v span k other (Finished f) = refl
same_over h v span k other Unknown = refl

turned : (a b : ℕ) → (a == b) ≡ (b == a)
turned a b = grind (arith, nat_tests)

after_cut : (h : History) (v : ℕ) (span : Span) (k : ℕ) → all_consistent h ≡ true → numbered k (waiting h) ≡ waiting_as h k (pending h k) → numbered k (waiting (h ▸ Cut v span)) ≡ waiting_as (h ▸ Cut v span) k (pending (h ▸ Cut v span) k)
after_cut h v span k ok before =
    let new : WaitingRefresh = record { cut = suc (position h); view = v; span = span } in
    filter-append (λ r. r.cut == k) (waiting h) (new ∷ [])
    ∙ elim (k == suc (position h)) as (λ t. (k == suc (position h)) ≡ t → numbered k (waiting h) ++ numbered k (new ∷ []) ≡ waiting_as (h ▸ Cut v span) k (cond t (Waiting v) (pending h k))) [
      | true ↦ λ here.
          let is : k ≡ suc (position h) = eqb-true k (suc (position h)) here in
          let same_view : (v == v) ≡ true = same_number v in
          let this : (suc (position h) == k) ≡ true = turned (suc (position h)) k ∙ here in
          ap (λ rs. rs ++ numbered k (new ∷ [])) (none_after (position h) k (waiting h) (omega arith) (waiting_up_to h ok))
          ∙ cond-true (suc (position h) == k) (new ∷ []) [] this
          ∙ ap (λ c. record { cut = c; view = v; span = span } ∷ []) (sym is)
          ∙ sym (ap (λ t. waiting_over k v (cond (t && v == v) (Some span) (span_of_cut v h k))) here ∙ ap (λ t. waiting_over k v (cond t (Some span) (span_of_cut v h k))) same_view)
      | false ↦ λ other.
          let apart : (suc (position h) == k) ≡ false = turned (suc (position h)) k ∙ other in
          ap (λ rs. numbered k (waiting h) ++ rs) (cond-false (suc (position h) == k) (new ∷ []) [] apart)
          ∙ append-nil (numbered k (waiting h))
          ∙ before
          ∙ sym (same_over h v span k other (pending h k))
    ] refl

gone : (k : ℕ) (rs : List WaitingRefresh) → numbered k (filter (λ r. not (r.cut == k)) rs) ≡ []
gone k [] = refl
gone k (r ∷ rs) =
    elim (r.cut == k) as (λ t. (r.cut == k) ≡ t → numbered k (cond (not t) (r ∷ filter (λ r. not (r.cut == k)) rs) (filter (λ r. not (r.cut == k)) rs)) ≡ []) [
      | true ↦ λ _. gone k rs
      | false ↦ λ other. cond-false (r.cut == k) (r ∷ numbered k (filter (λ r. not (r.cut == k)) rs)) (numbered k (filter (λ r. not (r.cut == k)) rs)) other ∙ gone k rs
    ] refl

kept : (k c : ℕ) (rs : List WaitingRefresh) → (k == c) ≡ false → numbered k (filter (λ r. not (r.cut == c)) rs) ≡ numbered k rs
kept k c [] e = refl
kept k c (r ∷ rs) e =
    elim (r.cut == c) as (λ t. (r.cut == c) ≡ t → numbered k (cond (not t) (r ∷ filter (λ r. not (r.cut == c)) rs) (filter (λ r. not (r.cut == c)) rs)) ≡ numbered k (r ∷ rs)) [
      | true ↦ λ here.
          let other : (r.cut == k) ≡ false = apart r.cut k c here e in
          kept k c rs e ∙ sym (cond-false (r.cut == k) (r ∷ numbered k rs) (numbered k rs) other)
      | false ↦ λ _. ap (λ ys. cond (r.cut == k) (r ∷ ys) ys) (kept k c rs e)
    ] refl
  where
    apart : (a k c : ℕ) → (a == c) ≡ true → (k == c) ≡ false → (a == k) ≡ false
    apart a k c e f = grind (arith, nat_tests)

finished_waits : (h : History) (k f : ℕ) (p : Pending) → waiting_as h k (finished_by f p) ≡ []
finished_waits h k f (Waiting n) = refl
finished_waits h k f (Finished g) = refl
finished_waits h k f Unknown = refl

same_finish : (h : History) (cut snap k : ℕ) (p : Pending) → waiting_as (h ▸ Built cut snap) k p ≡ waiting_as h k p
same_finish h cut snap k (Waiting n) = refl
same_finish h cut snap k (Finished f) = refl
same_finish h cut snap k Unknown = refl

after_built : (h : History) (cut snap k : ℕ) → numbered k (waiting h) ≡ waiting_as h k (pending h k) → numbered k (waiting (h ▸ Built cut snap)) ≡ waiting_as (h ▸ Built cut snap) k (pending (h ▸ Built cut snap) k)
after_built h cut snap k before =
    elim (k == cut) as (λ t. (k == cut) ≡ t → numbered k (waiting (h ▸ Built cut snap)) ≡ waiting_as (h ▸ Built cut snap) k (cond t (finished_by (suc (position h)) (pending h k)) (pending h k))) [
      | true ↦ λ here.
          let is : k ≡ cut = eqb-true k cut here in
          subst (λ c. numbered k (filter (λ r. not (r.cut == c)) (waiting h)) ≡ []) is (gone k (waiting h))
          ∙ sym (same_finish h cut snap k (finished_by (suc (position h)) (pending h k)) ∙ finished_waits h k (suc (position h)) (pending h k))
      | false ↦ λ other. kept k cut (waiting h) other ∙ before ∙ sym (same_finish h cut snap k (pending h k))
    ] refl

-- an event other than a cut
same_spans : (g h : History) (k : ℕ) → ((n : ℕ) → span_of_cut n g k ≡ span_of_cut n h k) → (p : Pending) → waiting_as h k p ≡ waiting_as g k p
same_spans g h k e (Waiting n) = ap (waiting_over k n) (sym (e n))
same_spans g h k e (Finished f) = refl
same_spans g h k e Unknown = refl

-- by an image
abbrev as_among : ℕ → List WaitingRefresh → Pending → List WaitingRefresh
as_among k ws (Waiting n) = waiting_over k n (span_among n ws k)
as_among k ws (Finished f) = []
as_among k ws Unknown = []

none_waits : (k : ℕ) (p : Pending) → as_among k [] p ≡ []
none_waits k (Waiting n) = refl
none_waits k (Finished f) = refl
none_waits k Unknown = refl

none_later : (c k : ℕ) (ws : List WaitingRefresh) → c ≡ k → list_all (λ d. is_lt (nat_cmp c d)) (cuts_of ws) ≡ true → numbered k ws ≡ []
none_later c k [] e f = refl
none_later c k (w ∷ ws) e f =
    let parts = and_parts (is_lt (nat_cmp c w.cut)) (list_all (λ d. is_lt (nat_cmp c d)) (cuts_of ws)) f in
    cond-false (w.cut == k) (w ∷ numbered k ws) (numbered k ws) (apart w.cut c k e parts.0) ∙ none_later c k ws e parts.1
  where
    apart : (d c k : ℕ) → c ≡ k → is_lt (nat_cmp c d) ≡ true → (d == k) ≡ false
    apart d c k e f =
        let below : nat_lt c d ≡ true = elim (nat_lt c d) as (λ t. is_lt (cond t Less (cond (c == d) Equal Greater)) ≡ true → t ≡ true) [ true ↦ λ _. refl | false ↦ λ g. elim (c == d) as (λ t. is_lt (cond t Equal Greater) ≡ true → false ≡ true) [ true ↦ λ x. x | false ↦ λ x. x ] g ] f in
        grind (arith, nat_tests)

other_among : (k : ℕ) (w : WaitingRefresh) (ws : List WaitingRefresh) → (k == w.cut) ≡ false → (p : Pending) → as_among k (w ∷ ws) p ≡ as_among k ws p
other_among k w ws e (Waiting n) = ap (λ t. waiting_over k n (cond (t && w.view == n) (Some w.span) (span_among n ws k))) e
other_among k w ws e (Finished f) = refl
other_among k w ws e Unknown = refl

among_exact : (k : ℕ) (ws : List WaitingRefresh) (fs : List FinishedRefresh) → Rises nat_cmp (cuts_of ws) → numbered k ws ≡ as_among k ws (pending_among ws fs k)
among_exact k [] fs r = sym (none_waits k (finished_among fs k))
among_exact k (w ∷ ws) fs r =
    elim (k == w.cut) as (λ t. (k == w.cut) ≡ t → numbered k (w ∷ ws) ≡ as_among k (w ∷ ws) (cond t (Waiting w.view) (pending_among ws fs k))) [
      | true ↦ λ here.
          let is : k ≡ w.cut = eqb-true k w.cut here in
          cond-true (w.cut == k) (w ∷ numbered k ws) (numbered k ws) (turned w.cut k ∙ here)
          ∙ ap (λ rs. w ∷ rs) (none_later w.cut k ws (sym is) r.0)
          ∙ ap (λ c. record { cut = c; view = w.view; span = w.span } ∷ []) (sym is)
          ∙ sym (ap (λ t. waiting_over k w.view (cond (t && w.view == w.view) (Some w.span) (span_among w.view ws k))) here ∙ ap (λ t. waiting_over k w.view (cond t (Some w.span) (span_among w.view ws k))) (same_number w.view))
      | false ↦ λ other.
          cond-false (w.cut == k) (w ∷ numbered k ws) (numbered k ws) (turned w.cut k ∙ other)
          ∙ among_exact k ws fs r.1
          ∙ sym (other_among k w ws other (pending_among ws fs k))
    ] refl

as_image : (i : Image) (k : ℕ) → nat_le k i.pos ≡ true → (p : Pending) → as_among k i.waiting p ≡ waiting_as (resumed i) k p
as_image i k l (Waiting n) = ap (waiting_over k n) (sym (cond-true (nat_le k i.pos) (span_among n i.waiting k) None l))
as_image i k l (Finished f) = refl
as_image i k l Unknown = refl

pub waiting_exact : (h : History) (k : ℕ) → all_consistent h ≡ true → numbered k (waiting h) ≡ waiting_as h k (pending h k)
waiting_exact start k ok = refl
waiting_exact (resumed i) k ok =
    elim (nat_le k i.pos) as (λ t. nat_le k i.pos ≡ t → numbered k i.waiting ≡ waiting_as (resumed i) k (cond t (pending_among i.waiting i.done k) Unknown)) [
      | true ↦ λ l. among_exact k i.waiting i.done (waiting_rising i ok) ∙ as_image i k l (pending_among i.waiting i.done k)
      | false ↦ λ e. none_after i.pos k i.waiting (above k i.pos e) (waiting_upto i ok)
    ] refl
  where
    above : (k p : ℕ) → nat_le k p ≡ false → p < k
    above k p e = grind (arith, nat_tests)
waiting_exact (h ▸ Cut v span) k ok = after_cut h v span k (and_parts (all_consistent h) _ ok).0 (waiting_exact h k (and_parts (all_consistent h) _ ok).0)
waiting_exact (h ▸ Built cut snap) k ok = after_built h cut snap k (waiting_exact h k (and_parts (all_consistent h) _ ok).0)
waiting_exact (h ▸ x) k ok = waiting_exact h k (and_parts (all_consistent h) _ ok).0 ∙ same_spans (h ▸ x) h k (λ n. refl) (pending h k)

-- ---- each refresh that waits has a span

-- by an image
abbrev has_among : ℕ → List WaitingRefresh → Pending → Bool
has_among k ws (Waiting n) = is_some (span_among n ws k)
has_among k ws (Finished f) = true
has_among k ws Unknown = true

none_spanned : (k : ℕ) (fs : List FinishedRefresh) → has_among k [] (finished_among fs k) ≡ true
none_spanned k [] = refl
none_spanned k (f ∷ fs) = elim (k == f.cut) as (λ t. has_among k [] (cond t (Finished f.built) (finished_among fs k)) ≡ true) [ true ↦ refl | false ↦ none_spanned k fs ]

other_spanned : (k : ℕ) (w : WaitingRefresh) (ws : List WaitingRefresh) → (k == w.cut) ≡ false → (p : Pending) → has_among k (w ∷ ws) p ≡ has_among k ws p
other_spanned k w ws e (Waiting n) = ap (λ t. is_some (cond (t && w.view == n) (Some w.span) (span_among n ws k))) e
other_spanned k w ws e (Finished f) = refl
other_spanned k w ws e Unknown = refl

among_spanned : (k : ℕ) (ws : List WaitingRefresh) (fs : List FinishedRefresh) → has_among k ws (pending_among ws fs k) ≡ true
among_spanned k [] fs = none_spanned k fs
among_spanned k (w ∷ ws) fs =
    elim (k == w.cut) as (λ t. (k == w.cut) ≡ t → has_among k (w ∷ ws) (cond t (Waiting w.view) (pending_among ws fs k)) ≡ true) [
      | true ↦ λ here.
          ap (λ t. is_some (cond (t && w.view == w.view) (Some w.span) (span_among w.view ws k))) here
          ∙ ap (λ t. is_some (cond t (Some w.span) (span_among w.view ws k))) (same_number w.view)
      | false ↦ λ other. other_spanned k w ws other (pending_among ws fs k) ∙ among_spanned k ws fs
    ] refl

image_spanned : (i : Image) (k : ℕ) → nat_le k i.pos ≡ true → (p : Pending) → has_span (resumed i) k p ≡ has_among k i.waiting p
image_spanned i k l (Waiting n) = ap is_some (cond-true (nat_le k i.pos) (span_among n i.waiting k) None l)
image_spanned i k l (Finished f) = refl
image_spanned i k l Unknown = refl

cut_spanned : (h : History) (v : ℕ) (span : Span) (k : ℕ) → (k == suc (position h)) ≡ false → (p : Pending) → has_span (h ▸ Cut v span) k p ≡ has_span h k p
cut_spanned h v span k other (Waiting n) = ap (λ t. is_some (cond (t && v == n) (Some span) (span_of_cut n h k))) other
cut_spanned h v span k other (Finished f) = refl
cut_spanned h v span k other Unknown = refl

finish_spanned : (h : History) (k f : ℕ) (p : Pending) → has_span h k (finished_by f p) ≡ true
finish_spanned h k f (Waiting n) = refl
finish_spanned h k f (Finished g) = refl
finish_spanned h k f Unknown = refl

-- an event other than a cut
still_spanned : (g h : History) (k : ℕ) → ((n : ℕ) → span_of_cut n g k ≡ span_of_cut n h k) → (p : Pending) → has_span g k p ≡ has_span h k p
still_spanned g h k e (Waiting n) = ap is_some (e n)
still_spanned g h k e (Finished f) = refl
still_spanned g h k e Unknown = refl

waiting_spanned : (h : History) (k : ℕ) → has_span h k (pending h k) ≡ true
waiting_spanned start k = refl
waiting_spanned (resumed i) k =
    elim (nat_le k i.pos) as (λ t. nat_le k i.pos ≡ t → has_span (resumed i) k (cond t (pending_among i.waiting i.done k) Unknown) ≡ true) [
      | true ↦ λ l. image_spanned i k l (pending_among i.waiting i.done k) ∙ among_spanned k i.waiting i.done
      | false ↦ λ _. refl
    ] refl
waiting_spanned (h ▸ Cut v span) k =
    elim (k == suc (position h)) as (λ t. (k == suc (position h)) ≡ t → has_span (h ▸ Cut v span) k (cond t (Waiting v) (pending h k)) ≡ true) [
      | true ↦ λ here.
          ap (λ t. is_some (cond (t && v == v) (Some span) (span_of_cut v h k))) here
          ∙ ap (λ t. is_some (cond t (Some span) (span_of_cut v h k))) (same_number v)
      | false ↦ λ other. cut_spanned h v span k other (pending h k) ∙ waiting_spanned h k
    ] refl
waiting_spanned (h ▸ Built cut snap) k =
    elim (k == cut) as (λ t. has_span (h ▸ Built cut snap) k (cond t (finished_by (suc (position h)) (pending h k)) (pending h k)) ≡ true) [
      | true ↦ finish_spanned (h ▸ Built cut snap) k (suc (position h)) (pending h k)
      | false ↦ still_spanned (h ▸ Built cut snap) h k (λ n. refl) (pending h k) ∙ waiting_spanned h k
    ]
waiting_spanned (h ▸ x) k = still_spanned (h ▸ x) h k (λ n. refl) (pending h k) ∙ waiting_spanned h k

pub waiting_is_pending : WaitingIsPending
waiting_is_pending = record { exact = waiting_exact; rising = waiting_rises; spans = waiting_spanned }
