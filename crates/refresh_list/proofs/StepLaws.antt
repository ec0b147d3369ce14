-- The effect of each event on the refreshes of a history.
use Rattle.std.proofs.Common.{◌≡◌, ℕ, suc, ◌<◌, Bool, true, false, ◌&&◌, cond, ◌==◌, List, [], ◌∷◌, ◌++◌, map, filter, not, Option, Some, None, sym, refl, ap, ◌∙◌, subst, arith}
use Rattle.std.specs.List.{AllByRecursion}
use Rattle.std.proofs.lemmas.Bool.{true≢false, eqb-true}
use Rattle.ts_bucket.specs.declared.spans.Span.{Span}
use Rattle.ts_model.specs.declared.events.Event.{Event}
use Rattle.ts_model.specs.declared.events.Event.TheVariants.{Table, Hyper, View, Mode, Commit, Cut, Built}
use Rattle.ts_model.specs.declared.refreshes.Pending.{Pending}
use Rattle.ts_model.specs.declared.refreshes.Pending.TheVariants.{Waiting, Unknown}
use Rattle.ts_model.specs.History.{History, ◌▸◌, position}
use Rattle.ts_model.specs.Pending.{finished_by}
use Rattle.ts_model.specs.Refreshes.{span_of_cut}
use Rattle.ts_model.proofs.AllowedLaws.{cut_further}
use Rattle.refresh_list.specs.declared.refreshes.Refresh.{Refresh}
use Rattle.refresh_list.specs.declared.refreshes.Stage.{Stage}
use Rattle.refresh_list.specs.declared.refreshes.Stage.TheVariants.{Waits, Done}
use Rattle.refresh_list.specs.Refreshes.{CutsBelow, IsCut, pending_in, stage_after, state_by, waiting_in, with_waiting, newly_cut, finished_at, finished_one}
use Rattle.refresh_list.specs.Laws.{RefreshesBegin, CutsStand, FinishesStand, OthersStand}
use Rattle.ts_schema.proofs.Cases.{same_number}

pub refreshes_begin : RefreshesBegin
refreshes_begin = record { pending = λ k. refl; waiting = refl; spans = tt; past = tt }

-- ---- a refresh that isn't after a number isn't after a greater one, and a span that was cut stays

below_next : (n : ℕ) (rs : List Refresh) → CutsBelow n rs → CutsBelow (suc n) rs
below_next n [] past = tt
below_next n (r ∷ rs) past = (omega (arith, past.0), below_next n rs past.1)

spans_further : (h : History) (e : Event) (rs : List Refresh) → AllByRecursion (λ r. IsCut h r.cut r.stage) rs → AllByRecursion (λ r. IsCut (h ▸ e) r.cut r.stage) rs
spans_further h e [] spans = tt
spans_further h e (r ∷ rs) spans = (by_stage r.stage spans.0, spans_further h e rs spans.1)
  where
    by_stage : (s : Stage) → IsCut h r.cut s → IsCut (h ▸ e) r.cut s
    by_stage (Waits view span) is = cut_further view h e r.cut span is
    by_stage (Done k) is = tt

pub others_stand : OthersStand
others_stand h (Table def) rs quiet s = record { pending = s.pending; waiting = s.waiting; spans = spans_further h (Table def) rs s.spans; past = below_next (suc (position h)) rs s.past }
others_stand h (Hyper t hyper) rs quiet s = record { pending = s.pending; waiting = s.waiting; spans = spans_further h (Hyper t hyper) rs s.spans; past = below_next (suc (position h)) rs s.past }
others_stand h (View def) rs quiet s = record { pending = s.pending; waiting = s.waiting; spans = spans_further h (View def) rs s.spans; past = below_next (suc (position h)) rs s.past }
others_stand h (Mode v only) rs quiet s = record { pending = s.pending; waiting = s.waiting; spans = spans_further h (Mode v only) rs s.spans; past = below_next (suc (position h)) rs s.past }
others_stand h (Commit ops) rs quiet s = record { pending = s.pending; waiting = s.waiting; spans = spans_further h (Commit ops) rs s.spans; past = below_next (suc (position h)) rs s.past }
others_stand h (Cut v span) rs quiet s = absurd (true≢false quiet)
others_stand h (Built cut snap) rs quiet s = absurd (true≢false quiet)

-- ---- one more cut

apart : (k a b : ℕ) → a < b → (k == a) ≡ true → (k == b) ≡ false
apart k a b l e =
    elim (k == b) as (λ t. (k == b) ≡ t → t ≡ false) [
      | true ↦ λ same. let is : k ≡ a = eqb-true k a e in let other : k ≡ b = eqb-true k b same in absurd (omega arith)
      | false ↦ λ _. refl
    ] refl

pending-pushed : (k n v : ℕ) (span : Span) (rs : List Refresh) → CutsBelow (suc n) rs → pending_in (rs ++ (newly_cut (suc n) v span ∷ [])) k ≡ cond (k == suc n) (Waiting v) (pending_in rs k)
pending-pushed k n v span [] past = refl
pending-pushed k n v span (r ∷ rs) past =
    elim (k == r.cut) as (λ t. (k == r.cut) ≡ t → cond t (state_by r.stage) (pending_in (rs ++ (newly_cut (suc n) v span ∷ [])) k) ≡ cond (k == suc n) (Waiting v) (cond t (state_by r.stage) (pending_in rs k))) [
      | true ↦ λ e. sym (ap (λ t. cond t (Waiting v) (state_by r.stage)) (apart k r.cut (suc n) past.0 e))
      | false ↦ λ _. pending-pushed k n v span rs past.1
    ] refl

waiting-pushed : (n v : ℕ) (span : Span) (rs : List Refresh) → waiting_in (rs ++ (newly_cut n v span ∷ [])) ≡ waiting_in rs ++ (record { cut = n; view = v; span = span } ∷ [])
waiting-pushed n v span [] = refl
waiting-pushed n v span (r ∷ rs) =
    elim r.stage as (λ s. with_waiting r.cut s (waiting_in (rs ++ (newly_cut n v span ∷ []))) ≡ with_waiting r.cut s (waiting_in rs) ++ (record { cut = n; view = v; span = span } ∷ [])) [
      | Waits view over ↦ ap (λ ws. record { cut = r.cut; view = view; span = over } ∷ ws) (waiting-pushed n v span rs)
      | Done k ↦ waiting-pushed n v span rs
    ]

all-pushed : {X : Type 0} (P : X → Type 0) (xs : List X) (x : X) → AllByRecursion P xs → P x → AllByRecursion P (xs ++ (x ∷ []))
all-pushed P [] x all p = (p, tt)
all-pushed P (y ∷ ys) x all p = (all.0, all-pushed P ys x all.1 p)

same_cut : (n v : ℕ) (span : Span) (o : Option Span) → cond (suc n == suc n && v == v) (Some span) o ≡ Some span
same_cut n v span o = (λ i. cond (same_number (suc n) i && v == v) (Some span) o) ∙ ap (λ t. cond t (Some span) o) (same_number v)

pub cuts_stand : CutsStand
cuts_stand h v span rs s = record {
  pending = λ k. pending-pushed k (position h) v span rs s.past ∙ ap (cond (k == suc (position h)) (Waiting v)) (s.pending k);
  waiting = waiting-pushed (suc (position h)) v span rs ∙ ap (λ ws. ws ++ (record { cut = suc (position h); view = v; span = span } ∷ [])) s.waiting;
  spans = all-pushed _ rs (newly_cut (suc (position h)) v span) (spans_further h (Cut v span) rs s.spans) (same_cut (position h) v span (span_of_cut v h (suc (position h))));
  past = all-pushed _ rs (newly_cut (suc (position h)) v span) (below_next (suc (position h)) rs s.past) (omega arith);
}

-- ---- a finish

finished_state : (by : ℕ) (s : Stage) → state_by (stage_after by s) ≡ finished_by by (state_by s)
finished_state by (Waits view span) = refl
finished_state by (Done k) = refl

-- the outcome of a refresh after its finish, or after that of another
pending-of_one : (k cut by : ℕ) (r : Refresh) (p q : Pending) → q ≡ cond (k == cut) (finished_by by p) p → cond (k == (finished_at cut by r).cut) (state_by (finished_at cut by r).stage) q ≡ cond (k == cut) (finished_by by (cond (k == r.cut) (state_by r.stage) p)) (cond (k == r.cut) (state_by r.stage) p)
pending-of_one k cut by r p q rest = by_name (cut == r.cut) refl
  where
    by_number : (t : Bool) → (k == r.cut) ≡ t → (cut == r.cut) ≡ true → cond t (state_by (stage_after by r.stage)) q ≡ cond (k == cut) (finished_by by (cond t (state_by r.stage) p)) (cond t (state_by r.stage) p)
    by_number true e named =
        let is : k ≡ r.cut = eqb-true k r.cut e in
        let cut_is : cut ≡ r.cut = eqb-true cut r.cut named in
        let same : (k == cut) ≡ true = ap (λ c. k == c) cut_is ∙ e in
        finished_state by r.stage ∙ sym (ap (λ t. cond t (finished_by by (state_by r.stage)) (state_by r.stage)) same)
    by_number false e named = rest

    by_other : (t : Bool) → (k == r.cut) ≡ t → (cut == r.cut) ≡ false → cond t (state_by r.stage) q ≡ cond (k == cut) (finished_by by (cond t (state_by r.stage) p)) (cond t (state_by r.stage) p)
    by_other true e named =
        let is : k ≡ r.cut = eqb-true k r.cut e in
        let other : (k == cut) ≡ false = not_same (k == cut) refl is named in
        sym (ap (λ t. cond t (finished_by by (state_by r.stage)) (state_by r.stage)) other)
      where
        not_same : (u : Bool) → (k == cut) ≡ u → k ≡ r.cut → (cut == r.cut) ≡ false → (k == cut) ≡ false
        not_same true f is named = absurd (true≢false (sym (subst (λ c. (c == r.cut) ≡ true) (eqb-true k cut f) e) ∙ named))
        not_same false f is named = f
    by_other false e named = rest

    by_name : (t : Bool) → (cut == r.cut) ≡ t → cond (k == (cond t (finished_one by r) r).cut) (state_by (cond t (finished_one by r) r).stage) q ≡ cond (k == cut) (finished_by by (cond (k == r.cut) (state_by r.stage) p)) (cond (k == r.cut) (state_by r.stage) p)
    by_name true named = by_number (k == r.cut) refl named
    by_name false named = by_other (k == r.cut) refl named

pending-finished : (k cut by : ℕ) (rs : List Refresh) → pending_in (map (finished_at cut by) rs) k ≡ cond (k == cut) (finished_by by (pending_in rs k)) (pending_in rs k)
pending-finished k cut by [] = elim (k == cut) as (λ t. Unknown ≡ cond t Unknown Unknown) [ true ↦ refl | false ↦ refl ]
pending-finished k cut by (r ∷ rs) = pending-of_one k cut by r (pending_in rs k) (pending_in (map (finished_at cut by) rs) k) (pending-finished k cut by rs)

waiting-finished : (cut by : ℕ) (rs : List Refresh) → waiting_in (map (finished_at cut by) rs) ≡ filter (λ w. not (w.cut == cut)) (waiting_in rs)
waiting-finished cut by [] = refl
waiting-finished cut by (r ∷ rs) = by_name (cut == r.cut) refl (waiting-finished cut by rs)
  where
    Rest : Type 0
    Rest = waiting_in (map (finished_at cut by) rs) ≡ filter (λ w. not (w.cut == cut)) (waiting_in rs)

    kept : (s : Stage) → (cut == r.cut) ≡ false → Rest → with_waiting r.cut s (waiting_in (map (finished_at cut by) rs)) ≡ filter (λ w. not (w.cut == cut)) (with_waiting r.cut s (waiting_in rs))
    kept (Waits view span) named rest =
        ap (λ ws. record { cut = r.cut; view = view; span = span } ∷ ws) rest
        ∙ sym (ap (λ t. cond (not t) (record { cut = r.cut; view = view; span = span } ∷ filter (λ w. not (w.cut == cut)) (waiting_in rs)) (filter (λ w. not (w.cut == cut)) (waiting_in rs))) (other (r.cut == cut) refl))
      where
        other : (t : Bool) → (r.cut == cut) ≡ t → (r.cut == cut) ≡ false
        other true e = absurd (true≢false (sym (subst (λ c. (c == r.cut) ≡ true) (eqb-true r.cut cut e) (same_number r.cut)) ∙ named))
        other false e = e
    kept (Done k) named rest = rest

    gone : (s : Stage) → (cut == r.cut) ≡ true → Rest → with_waiting r.cut (stage_after by s) (waiting_in (map (finished_at cut by) rs)) ≡ filter (λ w. not (w.cut == cut)) (with_waiting r.cut s (waiting_in rs))
    gone (Waits view span) named rest =
        rest
        ∙ sym (ap (λ t. cond (not t) (record { cut = r.cut; view = view; span = span } ∷ filter (λ w. not (w.cut == cut)) (waiting_in rs)) (filter (λ w. not (w.cut == cut)) (waiting_in rs))) same)
      where
        same : (r.cut == cut) ≡ true
        same = subst (λ c. (r.cut == c) ≡ true) (sym (eqb-true cut r.cut named)) (same_number r.cut)
    gone (Done k) named rest = rest

    by_name : (t : Bool) → (cut == r.cut) ≡ t → Rest → with_waiting (cond t (finished_one by r) r).cut (cond t (finished_one by r) r).stage (waiting_in (map (finished_at cut by) rs)) ≡ filter (λ w. not (w.cut == cut)) (with_waiting r.cut r.stage (waiting_in rs))
    by_name true named rest = gone r.stage named rest
    by_name false named rest = kept r.stage named rest

-- a property of the cuts, and of the stages of waiting refreshes, stays
all-finished : (P : ℕ → Stage → Type 0) (cut by : ℕ) → ((c : ℕ) (s : Stage) → P c s → P c (stage_after by s)) → (rs : List Refresh) → AllByRecursion (λ r. P r.cut r.stage) rs → AllByRecursion (λ r. P r.cut r.stage) (map (finished_at cut by) rs)
all-finished P cut by one [] all = tt
all-finished P cut by one (r ∷ rs) all = (
  elim (cut == r.cut) as (λ t. P (cond t (finished_one by r) r).cut (cond t (finished_one by r) r).stage) [ true ↦ one r.cut r.stage all.0 | false ↦ all.0 ],
  all-finished P cut by one rs all.1,
)

cut-finished : (h : History) (by cut : ℕ) (s : Stage) → IsCut h cut s → IsCut h cut (stage_after by s)
cut-finished h by cut (Waits view span) is = tt
cut-finished h by cut (Done k) is = tt

pub finishes_stand : FinishesStand
finishes_stand h cut snap rs s = record {
  pending = λ k. pending-finished k cut (suc (position h)) rs ∙ ap (λ p. cond (k == cut) (finished_by (suc (position h)) p) p) (s.pending k);
  waiting = waiting-finished cut (suc (position h)) rs ∙ ap (filter (λ w. not (w.cut == cut))) s.waiting;
  spans = all-finished (IsCut (h ▸ Built cut snap)) cut (suc (position h)) (cut-finished (h ▸ Built cut snap) (suc (position h))) rs (spans_further h (Built cut snap) rs s.spans);
  past = all-finished (λ c s. c < suc (suc (position h))) cut (suc (position h)) (λ c s l. l) rs (below_next (suc (position h)) rs s.past);
}
