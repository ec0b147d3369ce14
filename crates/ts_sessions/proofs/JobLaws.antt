-- Snapshots that a session holds, and their jobs.
use Rattle.std.proofs.Common.{◌≡◌, ℕ, suc, ◌==◌, Bool, true, false, cond, nat_lt, List, [], ◌∷◌, Option, Some, None, sym, refl, ap, ◌∙◌, subst, inl, inr, arith}
use Rattle.std.specs.Prelude.{Result, Ok, Err, IsTrue, OnOk, is_some, not, ◌||◌}
use Rattle.std.specs.Map.{remove_entry}
use Rattle.std.specs.Ordering.{nat_cmp, is_eq}
use Rattle.std.specs.declared.cmp.Ordering.TheVariants.{Less, Equal, Greater}
use Rattle.std.specs.BTreeMap.{is_at}
use Rattle.std.proofs.lemmas.Bool.{true≢false, and_parts, cond-true, cond-false, eqb-true}
use Rattle.std.proofs.lemmas.Bool.Decides.{nat_tests}
use Rattle.ts_schema.specs.declared.memory.NoMemory.{NoMemory}
use Rattle.ts_model.specs.declared.events.Event.TheVariants.{Built}
use Rattle.ts_model.specs.declared.refreshes.Pending.{Pending}
use Rattle.ts_model.specs.declared.refreshes.Pending.TheVariants.{Waiting, Finished, Unknown}
use Rattle.ts_model.specs.declared.outcomes.Refusal.{Refusal}
use Rattle.ts_model.specs.History.{History, ◌▸◌, position, Begins}
use Rattle.ts_model.specs.States.{State, stands_still}
use Rattle.ts_model.specs.Pending.{finished_by, is_known, pending}
use Rattle.ts_model.specs.Sound.{finish_fits, sound, sound_at}
use Rattle.ts_model.specs.Timely.{has_room}
use Rattle.ts_model.specs.Calls.{finish_of, makes, refusal, refuses as refuses_call}
use Rattle.ts_model.specs.Numbers.{stopped, history_full}
use Rattle.ts_model.proofs.AllowedLaws.{known_stays}
use Rattle.ts_sessions.specs.declared.sessions.Snapshot.{Snapshot}
use Rattle.ts_sessions.specs.Procedures.{ending_as, tries_at}
use Rattle.ts_sessions.specs.Held.{GoesOn, HoldsJob, HoldsSnapshots, is_finished, is_lost, positions}
use Rattle.ts_sessions.specs.Holding.{job_on, snapshots_on}
use Rattle.ts_sessions.specs.Jobs.{without_job}
use Rattle.ts_sessions.specs.Places.{Places, Turn, held_for, refuses}
use Rattle.ts_sessions.specs.Step.{finish_turn, finishes_refresh, lost_code, unfinished_refusal}
use Rattle.ts_sessions.specs.Walks.{Walks}
use Rattle.ts_sessions.proofs.StateLaws.{goes_seen}
use Rattle.ts_model.specs.declared.snapshots.Shown.{Ghosts as Shown}

-- ---- keys

pub same_key : (c k : ℕ) → is_at (nat_cmp c) k ≡ true → k ≡ c
same_key c k e =
    elim (nat_lt c k) as (λ t. is_eq (cond t Less (cond (c == k) Equal Greater)) ≡ true → k ≡ c) [
      | true ↦ λ f. absurd (true≢false (sym f))
      | false ↦ elim (c == k) as (λ t. (c == k) ≡ t → is_eq (cond t Equal Greater) ≡ true → k ≡ c) [
        | true ↦ λ is _. sym (eqb-true c k is)
        | false ↦ λ _ f. absurd (true≢false (sym f))
      ] refl
    ] e

-- ---- positions

abbrev at_of : {J : Type 0} → Option (Snapshot J) → Option ℕ
at_of None = None
at_of (Some s) = Some s.at

held_positions : {J : Type 0} (c : ℕ) (es : List (ℕ × Snapshot J)) → held_for c (positions es) ≡ at_of (held_for c es)
held_positions c [] = refl
held_positions c (e ∷ es) = elim (is_at (nat_cmp c) e.0) as (λ t. cond t (Some e.1.at) (held_for c (positions es)) ≡ at_of (cond t (Some e.1) (held_for c es))) [ true ↦ refl | false ↦ held_positions c es ]

pub held_at : {J : Type 0} (c : ℕ) (es : List (ℕ × Snapshot J)) (s : Snapshot J) → held_for c es ≡ Some s → held_for c (positions es) ≡ Some s.at
held_at c es s e = held_positions c es ∙ ap at_of e

pub not_held : {J : Type 0} (c : ℕ) (es : List (ℕ × Snapshot J)) → held_for c es ≡ None → held_for c (positions es) ≡ None
not_held c es e = held_positions c es ∙ ap at_of e

-- the positions stay the same when a job is taken
pub taken_positions : {J : Type 0} (c at : ℕ) (es : List (ℕ × Snapshot J)) (job : Option J) → held_for c es ≡ Some (record { at = at; job = job }) → positions (without_job c at es) ≡ positions es
taken_positions c at [] job e = refl
taken_positions c at (e ∷ es) job is =
    (elim (is_at (nat_cmp c) e.0) as (λ t. cond t (Some e.1) (held_for c es) ≡ Some (record { at = at; job = job }) → positions (cond t ((e.0, record { at = at; job = None }) ∷ es) (e ∷ without_job c at es)) ≡ (e.0, e.1.at) ∷ positions es) [
      | true ↦ λ f. ap (λ x. (e.0, x) ∷ positions es) (sym (at_same e.1 (record { at = at; job = job }) f))
      | false ↦ λ f. ap (λ x. (e.0, e.1.at) ∷ x) (taken_positions c at es job f)
    ]) is
  where
    at_same : {J : Type 0} (s t : Snapshot J) → Some s ≡ Some t → s.at ≡ t.at
    at_same s t e = cc

-- giving up a snapshot removes its position
pub removed_positions : {J : Type 0} (c at : ℕ) (es : List (ℕ × Snapshot J)) → positions (remove_entry (is_at (nat_cmp c)) (without_job c at es)) ≡ remove_entry (is_at (nat_cmp c)) (positions es)
removed_positions c at [] = refl
removed_positions c at (e ∷ es) =
    elim (is_at (nat_cmp c) e.0) as (λ t. is_at (nat_cmp c) e.0 ≡ t → positions (remove_entry (is_at (nat_cmp c)) (cond t ((e.0, record { at = at; job = None }) ∷ es) (e ∷ without_job c at es))) ≡ cond t (positions es) ((e.0, e.1.at) ∷ remove_entry (is_at (nat_cmp c)) (positions es))) [
      | true ↦ λ is. ap positions (cond-true (is_at (nat_cmp c) e.0) es ((e.0, record { at = at; job = None }) ∷ remove_entry (is_at (nat_cmp c)) es) is)
      | false ↦ λ is. ap positions (cond-false (is_at (nat_cmp c) e.0) (without_job c at es) (e ∷ remove_entry (is_at (nat_cmp c)) (without_job c at es)) is) ∙ ap (λ x. (e.0, e.1.at) ∷ x) (removed_positions c at es)
    ] refl

-- ---- what a session holds

pub held_holds : {T J : Type 0} (shown : Shown T J) (g : State) (c : ℕ) (es : List (ℕ × Snapshot J)) (s : Snapshot J) → HoldsSnapshots shown g es → held_for c es ≡ Some s → HoldsJob shown g c s.at s.job
held_holds shown g c [] s k e = absurd cc
held_holds shown g c (x ∷ es) s k e =
    (elim (is_at (nat_cmp c) x.0) as (λ t. is_at (nat_cmp c) x.0 ≡ t → cond t (Some x.1) (held_for c es) ≡ Some s → HoldsJob shown g c s.at s.job) [
      | true ↦ λ is f. subst (λ y. HoldsJob shown g c y.at y.job) (some_same x.1 s f) (subst (λ n. HoldsJob shown g n x.1.at x.1.job) (same_key c x.0 is) k.0)
      | false ↦ λ _ f. held_holds shown g c es s k.1 f
    ]) refl e
  where
    some_same : {X : Type 0} (x y : X) → Some x ≡ Some y → x ≡ y
    some_same x y e = cc

pub taken_holds : {T J : Type 0} (shown : Shown T J) (fits_on : (job : J) (g h : History) → Begins g h → shown.fits job g → shown.fits job h) (g h : State) (c at : ℕ) (es : List (ℕ × Snapshot J)) → GoesOn g h → IsTrue (is_lost h c) → HoldsSnapshots shown g es → HoldsSnapshots shown h (without_job c at es)
taken_holds shown fits_on g h c at [] on lost k = tt
taken_holds shown fits_on g h c at (e ∷ es) on lost k =
    elim (is_at (nat_cmp c) e.0) as (λ t. is_at (nat_cmp c) e.0 ≡ t → HoldsSnapshots shown h (cond t ((e.0, record { at = at; job = None }) ∷ es) (e ∷ without_job c at es))) [
      | true ↦ λ is. (subst (λ n. IsTrue (is_lost h n)) (sym (same_key c e.0 is)) lost, snapshots_on shown fits_on g h es on k.1)
      | false ↦ λ is. (job_on shown fits_on g h e.0 e.1.at e.1.job on k.0, taken_holds shown fits_on g h c at es on lost k.1)
    ] refl

pub removed_holds : {T J : Type 0} (shown : Shown T J) (fits_on : (job : J) (g h : History) → Begins g h → shown.fits job g → shown.fits job h) (g h : State) (c at : ℕ) (es : List (ℕ × Snapshot J)) → GoesOn g h → HoldsSnapshots shown g es → HoldsSnapshots shown h (remove_entry (is_at (nat_cmp c)) (without_job c at es))
removed_holds shown fits_on g h c at [] on k = tt
removed_holds shown fits_on g h c at (e ∷ es) on k =
    elim (is_at (nat_cmp c) e.0) as (λ t. is_at (nat_cmp c) e.0 ≡ t → HoldsSnapshots shown h (remove_entry (is_at (nat_cmp c)) (cond t ((e.0, record { at = at; job = None }) ∷ es) (e ∷ without_job c at es)))) [
      | true ↦ λ is. subst (λ t. HoldsSnapshots shown h (cond t es ((e.0, record { at = at; job = None }) ∷ remove_entry (is_at (nat_cmp c)) es))) (sym is) (snapshots_on shown fits_on g h es on k.1)
      | false ↦ λ is. subst (λ t. HoldsSnapshots shown h (cond t (without_job c at es) (e ∷ remove_entry (is_at (nat_cmp c)) (without_job c at es)))) (sym is) (job_on shown fits_on g h e.0 e.1.at e.1.job on k.0, removed_holds shown fits_on g h c at es on k.1)
    ] refl

-- ---- a refresh that can't be finished any more

-- a job that fits is that of a refresh that is known
pub known_job : (h : History) (c at : ℕ) → IsTrue (sound h (Built c at)) → is_known (pending h c) ≡ true
known_job h c at s =
    let fits : finish_fits h c at ≡ true = (and_parts (sound_at h (Built c at)) _ s).0 in
    (and_parts _ _ (and_parts _ _ (and_parts _ _ fits).0).0).0

finished_now : (k : ℕ) (p : Pending) → is_known p ≡ true → is_finished (finished_by k p) ≡ true
finished_now k (Waiting n) e = refl
finished_now k (Finished f) e = refl
finished_now k Unknown e = absurd (true≢false (sym e))

lost_still : (s : State) (c : ℕ) → IsTrue (stands_still s) → IsTrue (is_lost s c)
lost_still s c t = elim (is_finished (pending s.history c)) as (λ f. (f || (stands_still s || not (has_room s.history))) ≡ true) [ true ↦ refl | false ↦ ap (λ b. b || not (has_room s.history)) t ]

lost_full : (s : State) (c : ℕ) → has_room s.history ≡ false → IsTrue (is_lost s c)
lost_full s c f =
    let full : (stands_still s || not (has_room s.history)) ≡ true = elim (stands_still s) as (λ b. (b || not (has_room s.history)) ≡ true) [ true ↦ refl | false ↦ ap not f ] in
    elim (is_finished (pending s.history c)) as (λ f. (f || (stands_still s || not (has_room s.history))) ≡ true) [ true ↦ refl | false ↦ full ]

lost_finished : (s : State) (c : ℕ) → is_finished (pending s.history c) ≡ true → IsTrue (is_lost s c)
lost_finished s c e = rw e refl

built_finishes : (h : History) (c at : ℕ) → is_known (pending h c) ≡ true → is_finished (pending (h ▸ Built c at) c) ≡ true
built_finishes h c at k =
    let itself : (c == c) ≡ true = grind (arith, nat_tests) in
    rw itself (finished_now (suc (position h)) (pending h c) k)

finish_lost_waiting : (alone failed : Bool) (mid : State) (c at n : ℕ) (room : Bool) (new : State) (y : Result ℕ Refusal) → has_room mid.history ≡ room → pending mid.history c ≡ Waiting n → Walks alone failed mid (tries_at mid.history (cond room (makes (Built c at) (suc (position mid.history))) (refuses_call (refusal history_full mid.history 0)))) new y → IsTrue (is_lost new c)
finish_lost_waiting alone failed mid c at n true new y r e (inl w) = lost_still new c (subst (λ s. IsTrue (stands_still s)) (sym w.1.1) w.0)
finish_lost_waiting alone failed mid c at n true new y r e (inr (inl w)) =
    let fin : is_finished (pending (mid.history ▸ Built c at) c) ≡ true = built_finishes mid.history c at (subst (λ p. is_known p ≡ true) (sym e) refl) in
    lost_finished new c (subst (λ s. is_finished (pending s.history c) ≡ true) (sym w.rest.1) (subst (λ h. is_finished (pending h c) ≡ true) (sym w.first.history) fin))
finish_lost_waiting alone failed mid c at n true new y r e (inr (inr w)) = lost_still new c (subst (λ s. IsTrue (stands_still s)) (sym w.1.rest.1) (subst (λ o. IsTrue (is_some o)) (sym w.1.first.failed) refl))
finish_lost_waiting alone failed mid c at n false new y r e w = lost_full new c (subst (λ s. has_room s.history ≡ false) (sym w.1) r)

finish_lost_at : (alone failed : Bool) (mid : State) (c at : ℕ) (p : Pending) (new : State) (y : Result ℕ Refusal) → pending mid.history c ≡ p → is_known p ≡ true → Walks alone failed mid (tries_at mid.history (finish_of c at mid.history p)) new y → IsTrue (is_lost new c)
finish_lost_at alone failed mid c at (Waiting n) new y e k w = finish_lost_waiting alone failed mid c at n (has_room mid.history) new y refl e w
finish_lost_at alone failed mid c at (Finished f) new y e k w = lost_finished new c (subst (λ s. is_finished (pending s.history c) ≡ true) (sym w.1) (ap is_finished e))
finish_lost_at alone failed mid c at Unknown new y e k w = absurd (true≢false (sym k))

pub finish_lost : (alone failed : Bool) (old : State) (c at : ℕ) (new : State) (y : Result ℕ Refusal) → is_known (pending old.history c) ≡ true → Walks alone failed old (finishes_refresh c at) new y → IsTrue (is_lost new c)
finish_lost alone failed old c at new y k w =
    finish_lost_at alone failed w.mid c at (pending w.mid.history c) new y refl (known_stays c (goes_seen alone old w.mid w.first).begins k) w.rest

-- the finish of such a refresh is refused: it was finished before, or the store has stopped or its history is full
lost_waiting : (alone failed : Bool) (mid : State) (p : Places) (c at : ℕ) (room : Bool) (new : State) (y : Turn Places) → (stands_still mid || not room) ≡ true → failed ≡ false → new ≡ mid → y ≡ refuses p (refusal (cond room stopped history_full) mid.history 0) → Walks alone failed mid (ending_as (finish_turn p c at) (tries_at mid.history (cond room (makes (Built c at) (suc (position mid.history))) (refuses_call (refusal history_full mid.history 0))))) new y
lost_waiting alone failed mid p c at true new y lost f n_is y_is = inl (still (stands_still mid) lost, (f, n_is, y_is))
  where
    still : (b : Bool) → (b || false) ≡ true → b ≡ true
    still true e = refl
    still false e = e
lost_waiting alone failed mid p c at false new y lost f n_is y_is = (f, n_is, y_is)

pub lost_at : (alone failed : Bool) (mid : State) (p : Places) (c at : ℕ) (q : Pending) (new : State) (y : Turn Places) → (is_finished q || (stands_still mid || not (has_room mid.history))) ≡ true → failed ≡ false → new ≡ mid → y ≡ refuses p (unfinished_refusal (lost_code mid.history) mid.history q) → Walks alone failed mid (ending_as (finish_turn p c at) (tries_at mid.history (finish_of c at mid.history q))) new y
lost_at alone failed mid p c at (Waiting n) new y lost f n_is y_is = lost_waiting alone failed mid p c at (has_room mid.history) new y lost f n_is y_is
lost_at alone failed mid p c at (Finished k) new y lost f n_is y_is = (f, n_is, y_is)
lost_at alone failed mid p c at Unknown new y lost f n_is y_is = (f, n_is, y_is)

-- ---- clauses that don't ask how a statement completed

pub always_ok : {A : Type 0} (P : Type 0) (result : Result A NoMemory) → P → OnOk result P
always_ok P (Ok a) p = p
always_ok P (Err e) p = tt
