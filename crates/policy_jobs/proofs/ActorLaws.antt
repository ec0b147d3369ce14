-- What the replies of sessions with policies say about what their lines do, by those of the actors in them.
use Rattle.std.proofs.Common.{◌≡◌, ◌∙◌, ℕ, suc, ◌≤◌, ◌&&◌, ℤ, Bool, true, false, cond, List, [], ◌∷◌, ◌++◌, append-nil, length, Option, Some, None, sym, refl, ap, subst, arith}
use Rattle.std.specs.Prelude.{Result, Ok, Err, ◌||◌, not, nat_le}
use Rattle.std.specs.List.{AllByRecursion}
use Rattle.std.proofs.lemmas.Bool.{true≢false}
use Rattle.std.proofs.lemmas.List.{map-append}
use Rattle.ts_bucket.specs.Bucket.{is_time}
use Rattle.ts_model.specs.declared.events.Event.{Event}
use Rattle.ts_model.specs.declared.outcomes.Refusal.{Refusal}
use Rattle.ts_model.specs.declared.rosters.Roster.{Roster}
use Rattle.ts_model.specs.Allowed.{all_allowed}
use Rattle.ts_model.specs.Calls.{refusal}
use Rattle.ts_model.specs.Numbers.{bad_time, stopped, bad_policy, too_many_policies}
use Rattle.ts_model.specs.History.{History, position, prefix, Begins, base_position}
use Rattle.ts_model.specs.Roster.{roster}
use Rattle.ts_model.specs.States.{State, stop_of}
use Rattle.ts_catalog.specs.declared.relations.Found.{Found}
use Rattle.ts_catalog.specs.declared.relations.Found.TheVariants as found
use Rattle.ts_catalog.specs.Relations.{found_in}
use Rattle.stmt_reader.specs.declared.faults.Fault.{Fault}
use Rattle.stmt_reader.specs.declared.faults.Fault.TheVariants as faults
use Rattle.stmt_tokens.specs.Streams.{Stream, stream}
use Rattle.stmt_check.specs.Refusals.{◌⊳◌, hypertable_refusal, marked_refusal, refusal_if, view_refusal}
use Rattle.result_text.specs.declared.replies.Said.{Said}
use Rattle.result_text.specs.declared.replies.Said.TheVariants as said
use Rattle.ts_sessions.specs.declared.kinds.StatementKind.TheVariants.{Defines}
use Rattle.ts_sessions.specs.Actors.{HadBegun, IsGivenOver, StaysOutside, TellsReplies}
use Rattle.ts_sessions.specs.Gives.{Gives, StopsLater, numbers}
use Rattle.ts_sessions.specs.Made.{made_by, made_in}
use Rattle.ts_sessions.specs.Places.{Block, none, writing, reading, Turn, turns, refuses}
use Rattle.ts_sessions.specs.Procedures.{Procedure, ends, looks, ending_as}
use Rattle.ts_sessions.specs.Steady.{Steady}
use Rattle.ts_sessions.specs.Step.{block_refusal, misread}
use Rattle.ts_sessions.specs.Stopped.{StopsAt}
use Rattle.ts_sessions.specs.Walks.{Walks}
use Rattle.ts_sessions.proofs.BegunLaws.{begun_later}
use Rattle.ts_sessions.proofs.GivenWalks.{given_over}
use Rattle.ts_sessions.proofs.GivesLaws.{gives_on}
use Rattle.ts_sessions.proofs.TogetherLaws.{answered_then, given_ended, given_then, gives_parted, walks_parted}
use Rattle.ts_sessions.proofs.WalkLaws.{goes_walks}
use Rattle.policy_jobs.specs.declared.jobs.Job.{Job}
use Rattle.policy_jobs.specs.declared.jobs.Job.TheVariants as jobs
use Rattle.policy_jobs.specs.declared.policies.Policy.{Policy}
use Rattle.policy_jobs.specs.declared.statements.PolicyStmt.{PolicyStmt}
use Rattle.policy_jobs.specs.declared.statements.PolicyStmt.TheVariants as stmts
use Rattle.policy_jobs.specs.Adding.{adding_refusal, fits_step, has_offsets, is_interval, most_policies, relation_refusal}
use Rattle.policy_jobs.specs.Policies.{due, due_texts, policies_after_tick}
use Rattle.policy_jobs.specs.Reading.{statement}
use Rattle.policy_jobs.specs.Turns.{PolicyPlaces, turn_of_adding, adds_policy, and_all, and_then, behind, beside, lets_pass, misses_time, performs, policy_does, reads_as, runs_due, ticks}
use Rattle.policy_jobs.specs.Words.{begins}
use Rattle.policy_jobs.proofs.OtherLines.{events_begin_otherwise}
use Rattle.policy_jobs.proofs.RunLaws.{made_behind, or_false}

-- ---- procedures with a function of their result

pub record EndedAs {A B : Type 0} (g : A → B) (alone failed : Bool) (old : State) (d : Procedure A) (new : State) (y : B) : Type 0 where
  pub end : A
  pub walks : Walks alone failed old d new end
  pub is : y ≡ g end

pub ended_as : {A B : Type 0} (g : A → B) (alone failed : Bool) (old : State) (d : Procedure A) (new : State) (y : B) → Walks alone failed old (ending_as g d) new y → EndedAs g alone failed old d new y
ended_as g alone failed old d new y w =
    let p = walks_parted alone failed old d (λ a. ends (g a)) new y w in
    let whole : failed ≡ p.failed_first = p.fell ∙ ap (λ t. p.failed_first || t) p.walks_then.0 ∙ or_false p.failed_first in
    record {
      end = p.end;
      walks = subst (λ f. Walks alone f old d new p.end) (sym whole) (subst (λ s. Walks alone p.failed_first old d s p.end) (sym p.walks_then.1) p.walks_first);
      is = p.walks_then.2;
    }

given_as : {A B : Type 0} (g : A → B) (all : History) (stop : Option ℕ) (old new : State) (at : ℕ) (r : Procedure A) (a : A) (y : B) → y ≡ g a → IsGivenOver all stop old new at r a → IsGivenOver all stop old new at (ending_as g r) y
given_as g all stop old new at r a y e one =
    subst (λ z. IsGivenOver all stop old new at (ending_as g r) z) (sym e)
    (given_then all stop old new new at r (λ x. ends (g x)) a (g a) one (given_ended all stop new one.last (g a) one.within))

-- what is given of the result of a procedure
ends_parts : {A : Type 0} (all : History) (stop : Option ℕ) (at : ℕ) (x : A) (looks : List (Option ℕ)) (last : ℕ) (given : List (ℕ × Event)) (y : A) → Gives all stop at [] (ends x) looks last given y → (last ≡ at) × (given ≡ []) × (y ≡ x)
ends_parts all stop at x [] last given y g = g
ends_parts all stop at x (p ∷ ps) last given y g = absurd g

record GivenAs {A B : Type 0} (g : A → B) (all : History) (stop : Option ℕ) (at : ℕ) (d : Procedure A) (last : ℕ) (given : List (ℕ × Event)) (y : B) : Type 0 where
  end : A
  looks : List (Option ℕ)
  gives : Gives all stop at [] d looks last given end
  is : y ≡ g end

parts_as : {A B : Type 0} (g : A → B) (all : History) (stop : Option ℕ) (at : ℕ) (d : Procedure A) (looks : List (Option ℕ)) (last : ℕ) (given : List (ℕ × Event)) (y : B) → Gives all stop at [] (ending_as g d) looks last given y → GivenAs g all stop at d last given y
parts_as g all stop at d looks last given y gives =
    let p = gives_parted all stop at d (λ a. ends (g a)) looks last given y gives in
    let e = ends_parts all stop p.mid (g p.end) p.looks_then last p.given_then y p.gives_then in
    let same : given ≡ p.given_first = p.is ∙ ap (λ es. p.given_first ++ es) e.1 ∙ append-nil p.given_first in
    record {
      end = p.end;
      looks = p.looks_first;
      gives = subst (λ k. Gives all stop at [] d p.looks_first k given p.end) (sym e.0) (subst (λ es. Gives all stop at [] d p.looks_first p.mid es p.end) (sym same) p.gives_first);
      is = e.2;
    }

steady_look : {A : Type 0} (base : History) (f : History → A) → Steady false base (looks (λ h. ends (f h)))
steady_look base f = λ h on. (λ _. tt, λ no. absurd (true≢false no))

-- ---- a policy that is added leaves the state of the actor

added_inner : {P : Type 0} (p : PolicyPlaces P) (at : ℕ) (policy : Policy) (o : Option Refusal) → (turn_of_adding p at policy o).places.inner ≡ p.inner
added_inner p at policy None = refl
added_inner p at policy (Some r) = refl

-- ---- refusals that aren't E24

abbrev NotStop : Option Refusal → Type 0
NotStop None = Unit {0}
NotStop (Some r) = r.code ≡ stopped → ⊥

or_not_stop : (a b : Option Refusal) → NotStop a → NotStop b → NotStop (a ⊳ b)
or_not_stop None b m n = n
or_not_stop (Some r) b m n = m

marked_not_stop : (at code mark : ℕ) (wrong : Bool) → (code ≡ stopped → ⊥) → NotStop (marked_refusal at code mark wrong)
marked_not_stop at code mark true n = n
marked_not_stop at code mark false n = tt

view_not_stop : (at : ℕ) (f : Found) → NotStop (view_refusal at f)
view_not_stop at found.None = λ e. omega (arith, e)
view_not_stop at (found.Plain n) = λ e. omega (arith, e)
view_not_stop at (found.Hyper n) = λ e. omega (arith, e)
view_not_stop at (found.View n) = tt

hyper_not_stop : (at : ℕ) (f : Found) → NotStop (hypertable_refusal at f)
hyper_not_stop at found.None = λ e. omega (arith, e)
hyper_not_stop at (found.Plain n) = λ e. omega (arith, e)
hyper_not_stop at (found.Hyper n) = tt
hyper_not_stop at (found.View n) = λ e. omega (arith, e)

relation_not_stop : (at : ℕ) (r : Roster) (job : Job) → NotStop (relation_refusal at r job)
relation_not_stop at r (jobs.Refresh view from to) = view_not_stop at (found_in r view)
relation_not_stop at r (jobs.Drop table after) = hyper_not_stop at (found_in r table)

adding_not_stop : (at : ℕ) (r : Roster) (many : ℕ) (job : Job) (every : ℤ) → NotStop (adding_refusal at r many job every)
adding_not_stop at r many job every =
    let good = not (has_offsets job && is_interval every && fits_step r job) in
    or_not_stop (relation_refusal at r job) (refusal_if at bad_policy good ⊳ marked_refusal at too_many_policies (suc most_policies) (nat_le most_policies many)) (relation_not_stop at r job)
    (or_not_stop (refusal_if at bad_policy good) (marked_refusal at too_many_policies (suc most_policies) (nat_le most_policies many)) (marked_not_stop at bad_policy 0 good (λ e. omega (arith, e)))
    (marked_not_stop at too_many_policies (suc most_policies) (nat_le most_policies many) (λ e. omega (arith, e))))

barred_not_stop : (b : Block) → NotStop (block_refusal b Defines)
barred_not_stop none = tt
barred_not_stop (writing ops n) = λ e. omega (arith, e)
barred_not_stop (reading at) = λ e. omega (arith, e)

misread_not_stop : (f : Fault) → (misread f).code ≡ stopped → ⊥
misread_not_stop (faults.NoToken p) e = omega (arith, e)
misread_not_stop (faults.Syntax p) e = omega (arith, e)
misread_not_stop (faults.BadNumber p) e = omega (arith, e)

-- ---- lines that are E24 only at stops, and name the events that were appended

abbrev IsGood : Option ℕ → List (ℕ × Event) → List Said → Type 0
IsGood stop given lines = AllByRecursion (StopsAt stop) lines × (numbers given ≡ made_in lines)

all_behind : (stop : Option ℕ) (xs ys : List Said) → AllByRecursion (StopsAt stop) xs → AllByRecursion (StopsAt stop) ys → AllByRecursion (StopsAt stop) (xs ++ ys)
all_behind stop [] ys a b = b
all_behind stop (x ∷ xs) ys a b = (a.0, all_behind stop xs ys a.1 b)

good_behind : (stop : Option ℕ) (given given_then : List (ℕ × Event)) (xs ys : List Said) → IsGood stop given xs → IsGood stop given_then ys → IsGood stop (given ++ given_then) (xs ++ ys)
good_behind stop given given_then xs ys a b =
    (all_behind stop xs ys a.0 b.0, map-append (λ (e : ℕ × Event). e.0) given given_then ∙ ap (λ m. m ++ numbers given_then) a.1 ∙ ap (λ m. made_in xs ++ m) b.1 ∙ sym (made_behind xs ys))

abbrev AllGood : {P : Type 0} → History → Option ℕ → ℕ → Procedure (Turn P) → Type 0
AllGood {P} all stop at d = (looks : List (Option ℕ)) (last : ℕ) (given : List (ℕ × Event)) (y : Turn P) → Gives all stop at [] d looks last given y → IsGood stop given y.said

good_line : {P : Type 0} (all : History) (stop : Option ℕ) (at : ℕ) (p : P) (line : Said) → StopsAt stop line → made_by line ≡ [] → AllGood all stop at (ends (turns p line))
good_line all stop at p line s n looks last given y g =
    let e = ends_parts all stop at (turns p line) looks last given y g in (
      subst (λ z. AllByRecursion (StopsAt stop) z.said) (sym e.2) (s, tt),
      ap numbers e.1 ∙ sym (ap (λ m. m ++ []) n) ∙ ap (λ z. made_in z.said) (sym e.2),
    )

good_look : {P : Type 0} (all : History) (stop : Option ℕ) (at : ℕ) (f : History → Turn P) → ((h : History) (k : ℕ) → AllGood all stop k (ends (f h))) → AllGood all stop at (looks (λ h. ends (f h)))
good_look all stop at f good [] last given y g = absurd g
good_look all stop at f good (None ∷ ps) last given y g = absurd (true≢false g.0)
good_look all stop at f good (Some p ∷ ps) last given y g = good (prefix all p) p ps last given y g.3

good_added : {P : Type 0} (all : History) (stop : Option ℕ) (at : ℕ) (p : PolicyPlaces P) (pos : ℕ) (policy : Policy) (o : Option Refusal) → NotStop o → AllGood all stop at (ends (turn_of_adding p pos policy o))
good_added all stop at p pos policy None n = good_line all stop at _ (said.Policy (suc (length p.policies)) pos) tt refl
good_added all stop at p pos policy (Some r) n = good_line all stop at p (said.Fault r) (λ e. absurd (n e)) refl

-- ---- blocks

pub stays_outside : {P : Type 0} (within : P → Block) (does : P → List ℕ → ℕ → Procedure (Turn P)) → StaysOutside within does → StaysOutside (λ (p : PolicyPlaces P). within p.inner) (policy_does does within)
stays_outside within does law alone failed old p text skip new y out event w =
    let s = stream text skip in
    let other = ending_as (beside p.policies) (does p.inner text skip) in
    let there = subst (λ t. Walks alone failed old (cond t (reads_as does p (within p.inner) (statement s)) other) new y) (events_begin_otherwise s event) w in
    let e = ended_as (beside p.policies) alone failed old (does p.inner text skip) new y there in
    ap (λ z. within z.places.inner) e.is ∙ law alone failed old p.inner text skip new e.end out event e.walks

module _ {P : Type 0} (within : P → Block) (does reply : P → List ℕ → ℕ → Procedure (Turn P)) (tells : TellsReplies within does reply) (alone : Bool) (old : State) where
  -- after any walk the block of the actor had begun
  abbrev Begun : Procedure (Turn P) → Type 0
  Begun d = (failed : Bool) (new : State) (y : Turn P) → Walks alone failed old d new y → HadBegun within y.places new.history

  begun_then : (d : Procedure (Turn P)) (text : List ℕ) → Begun d → Begun (and_then does d text)
  begun_then d text begun failed new y w =
      let p = walks_parted alone failed old d (λ x. ending_as (behind x) (does x.places text 0)) new y w in
      let e = ended_as (behind p.end) alone p.failed_then p.mid (does p.end.places text 0) new y p.walks_then in
      subst (λ z. HadBegun within z.places new.history) (sym e.is)
      (tells.began alone p.failed_then p.mid p.end.places text 0 new e.end (begun p.failed_first p.mid p.end p.walks_first) e.walks)

  begun_all : (texts : List (List ℕ)) (d : Procedure (Turn P)) → Begun d → Begun (and_all does d texts)
  begun_all [] d begun = begun
  begun_all (text ∷ texts) d begun = begun_all texts (and_then does d text) (begun_then d text begun)

  begun_end : (y : Turn P) → HadBegun within y.places old.history → Begun (ends y)
  begun_end y begun failed new z w = subst (λ s. HadBegun within z.places s.history) (sym w.1) (subst (λ x. HadBegun within x.places old.history) (sym w.2) begun)

  -- the same for a session with policies
  abbrev InnerBegun : Procedure (Turn (PolicyPlaces P)) → Type 0
  InnerBegun d = (failed : Bool) (new : State) (y : Turn (PolicyPlaces P)) → Walks alone failed old d new y → HadBegun within y.places.inner new.history

  inner_end : (y : Turn (PolicyPlaces P)) → HadBegun within y.places.inner old.history → InnerBegun (ends y)
  inner_end y begun failed new z w = subst (λ s. HadBegun within z.places.inner s.history) (sym w.1) (subst (λ x. HadBegun within x.places.inner old.history) (sym w.2) begun)

  inner_look : (i : P) (f : History → Turn (PolicyPlaces P)) → ((h : History) → (f h).places.inner ≡ i) → HadBegun within i old.history → InnerBegun (looks (λ h. ends (f h)))
  inner_look i f same begun failed new y w =
      let goes = goes_walks alone failed old (looks (λ h. ends (f h))) new y w in
      let is : y.places.inner ≡ i = ap (λ z. z.places.inner) w.rest.2 ∙ same w.mid.history in
      subst (λ x. HadBegun within x new.history) (sym is) (begun_later (within i) old.history new.history goes.begins begun)

  inner_beside : (policies : List Policy) (d : Procedure (Turn P)) → Begun d → InnerBegun (ending_as (beside policies) d)
  inner_beside policies d begun failed new y w =
      let e = ended_as (beside policies) alone failed old d new y w in
      subst (λ z. HadBegun within z.places.inner new.history) (sym e.is) (begun failed new e.end e.walks)

  inner_ticks : (p : PolicyPlaces P) (now : ℤ) → HadBegun within p.inner old.history → InnerBegun (ticks does p now)
  inner_ticks p now begun =
      let line = turns p.inner (said.Tick now (length (due now p.policies))) in
      elim (is_time now) as (λ t. InnerBegun (cond t (ending_as (beside (policies_after_tick now p.policies)) (runs_due does now p.inner p.policies)) (misses_time p))) [
        | true ↦ inner_beside (policies_after_tick now p.policies) (runs_due does now p.inner p.policies) (begun_all (due_texts now p.policies) (ends line) (begun_end line begun))
        | false ↦ inner_look p.inner (λ h. refuses p (refusal bad_time h 0)) (λ h. refl) begun
      ]

  inner_performs : (p : PolicyPlaces P) (stmt : PolicyStmt) → HadBegun within p.inner old.history → InnerBegun (performs does p stmt)
  inner_performs p (stmts.Add job every) begun =
      let policy : Policy = record { job = job; every = every; ran = None } in
      let o : History → Option Refusal = λ h. adding_refusal (position h) (roster h) (length p.policies) job every in
      inner_look p.inner (λ h. turn_of_adding p (position h) policy (o h)) (λ h. added_inner p (position h) policy (o h)) begun
  inner_performs p (stmts.Tick now) begun = inner_ticks p now begun

  inner_lets : (p : PolicyPlaces P) (stmt : PolicyStmt) (o : Option Refusal) → HadBegun within p.inner old.history → InnerBegun (lets_pass does p stmt o)
  inner_lets p stmt (Some r) begun = inner_end (refuses p r) begun
  inner_lets p stmt None begun = inner_performs p stmt begun

  inner_reads : (p : PolicyPlaces P) (b : Block) (r : Result (PolicyStmt × Stream) Fault) → HadBegun within p.inner old.history → InnerBegun (reads_as does p b r)
  inner_reads p b (Ok read) begun = inner_lets p read.0 (block_refusal b Defines) begun
  inner_reads p b (Err f) begun = inner_end (refuses p (misread f)) begun

  inner_does : (p : PolicyPlaces P) (text : List ℕ) (skip : ℕ) → HadBegun within p.inner old.history → InnerBegun (policy_does does within p text skip)
  inner_does p text skip begun =
      elim (begins (stream text skip)) as (λ t. InnerBegun (cond t (reads_as does p (within p.inner) (statement (stream text skip))) (ending_as (beside p.policies) (does p.inner text skip)))) [
        | true ↦ inner_reads p (within p.inner) (statement (stream text skip)) begun
        | false ↦ inner_beside p.policies (does p.inner text skip) (λ failed new y w. tells.began alone failed old p.inner text skip new y begun w)
      ]

  -- ---- walks are given

  module _ (all : History) (stop : Option ℕ) (at : ℕ) (le : at ≤ position old.history) (ok : all_allowed all ≡ true) where
    -- a reply gives any walk
    abbrev Told : {A : Type 0} → Procedure A → Procedure A → Type 0
    Told {A} d r = (failed : Bool) (new : State) (y : A) → Begins new.history all → StopsLater (stop_of new) stop → Walks alone failed old d new y → IsGivenOver all stop old new at r y

    told_same : {A : Type 0} (d : Procedure A) → Steady false old.history d → Told d d
    told_same d steady failed new y on st w = given_over alone failed all stop at old d new y steady le on st w

    told_as : {A B : Type 0} (g : A → B) (d r : Procedure A) → Told d r → Told (ending_as g d) (ending_as g r)
    told_as g d r told failed new y on st w =
        let e = ended_as g alone failed old d new y w in
        given_as g all stop old new at r e.end y e.is (told failed new e.end on st e.walks)

    told_then : (d r : Procedure (Turn P)) (text : List ℕ) → Begun d → Told d r → Told (and_then does d text) (and_then reply r text)
    told_then d r text begun told failed new y on st w =
        answered_then alone failed all stop at old d r (λ x. ending_as (behind x) (does x.places text 0)) (λ x. ending_as (behind x) (reply x.places text 0)) new y on st
        (λ fell mid a on_mid st_mid v. told fell mid a on_mid st_mid v)
        (λ fell fell_then mid a from from_le v u.
        let e = ended_as (behind a) alone fell_then mid (does a.places text 0) new y u in
        given_as (behind a) all stop mid new from (reply a.places text 0) e.end y e.is
        (tells.answered alone fell_then all stop from mid a.places text 0 new e.end (begun fell mid a v) from_le ok on st e.walks)) w

    told_all : (texts : List (List ℕ)) (d r : Procedure (Turn P)) → Begun d → Told d r → Told (and_all does d texts) (and_all reply r texts)
    told_all [] d r begun told = told
    told_all (text ∷ texts) d r begun told = told_all texts (and_then does d text) (and_then reply r text) (begun_then d text begun) (told_then d r text begun told)

    told_ticks : (p : PolicyPlaces P) (now : ℤ) → HadBegun within p.inner old.history → Told (ticks does p now) (ticks reply p now)
    told_ticks p now begun =
        let line = turns p.inner (said.Tick now (length (due now p.policies))) in
        elim (is_time now) as (λ t. Told (cond t (ending_as (beside (policies_after_tick now p.policies)) (runs_due does now p.inner p.policies)) (misses_time p)) (cond t (ending_as (beside (policies_after_tick now p.policies)) (runs_due reply now p.inner p.policies)) (misses_time p))) [
          | true ↦ told_as (beside (policies_after_tick now p.policies)) (runs_due does now p.inner p.policies) (runs_due reply now p.inner p.policies) (told_all (due_texts now p.policies) (ends line) (ends line) (begun_end line begun) (told_same (ends line) tt))
          | false ↦ told_same (misses_time p) (steady_look old.history (λ h. refuses p (refusal bad_time h 0)))
        ]

    told_performs : (p : PolicyPlaces P) (stmt : PolicyStmt) → HadBegun within p.inner old.history → Told (performs does p stmt) (performs reply p stmt)
    told_performs p (stmts.Add job every) begun =
        told_same (adds_policy p job every) (steady_look old.history (λ h. turn_of_adding p (position h) (record { job = job; every = every; ran = None }) (adding_refusal (position h) (roster h) (length p.policies) job every)))
    told_performs p (stmts.Tick now) begun = told_ticks p now begun

    told_lets : (p : PolicyPlaces P) (stmt : PolicyStmt) (o : Option Refusal) → HadBegun within p.inner old.history → Told (lets_pass does p stmt o) (lets_pass reply p stmt o)
    told_lets p stmt (Some r) begun = told_same (ends (refuses p r)) tt
    told_lets p stmt None begun = told_performs p stmt begun

    told_reads : (p : PolicyPlaces P) (b : Block) (r : Result (PolicyStmt × Stream) Fault) → HadBegun within p.inner old.history → Told (reads_as does p b r) (reads_as reply p b r)
    told_reads p b (Ok read) begun = told_lets p read.0 (block_refusal b Defines) begun
    told_reads p b (Err f) begun = told_same (ends (refuses p (misread f))) tt

    told_does : (p : PolicyPlaces P) (text : List ℕ) (skip : ℕ) → HadBegun within p.inner old.history → Told (policy_does does within p text skip) (policy_does reply within p text skip)
    told_does p text skip begun =
        let s = stream text skip in
        elim (begins s) as (λ t. Told (cond t (reads_as does p (within p.inner) (statement s)) (ending_as (beside p.policies) (does p.inner text skip))) (cond t (reads_as reply p (within p.inner) (statement s)) (ending_as (beside p.policies) (reply p.inner text skip)))) [
          | true ↦ told_reads p (within p.inner) (statement s) begun
          | false ↦ told_as (beside p.policies) (does p.inner text skip) (reply p.inner text skip) (λ failed new y on st w. tells.answered alone failed all stop at old p.inner text skip new y begun le ok on st w)
        ]

-- ---- replies

module _ {P : Type 0} (within : P → Block) (does reply : P → List ℕ → ℕ → Procedure (Turn P)) (tells : TellsReplies within does reply) (all : History) (stop : Option ℕ) where
  good_then : (at : ℕ) (d : Procedure (Turn P)) (text : List ℕ) → base_position all ≤ at → AllGood all stop at d → AllGood all stop at (and_then reply d text)
  good_then at d text low good looks last given y g =
      let p = gives_parted all stop at d (λ x. ending_as (behind x) (reply x.places text 0)) looks last given y g in
      let e = parts_as (behind p.end) all stop p.mid (reply p.end.places text 0) p.looks_then last p.given_then y p.gives_then in
      let on : at ≤ p.mid = gives_on all stop at d p.looks_first p.mid p.given_first p.end p.gives_first in
      let here : base_position all ≤ p.mid = omega (arith, low, on) in
      let stops = tells.stops all stop p.mid p.end.places text 0 e.looks last p.given_then e.end here e.gives in
      let names = tells.named all stop p.mid p.end.places text 0 e.looks last p.given_then e.end here e.gives in
      subst (λ z. IsGood stop given z.said) (sym e.is)
      (subst (λ es. IsGood stop es (p.end.said ++ e.end.said)) (sym p.is) (good_behind stop p.given_first p.given_then p.end.said e.end.said (good p.looks_first p.mid p.given_first p.end p.gives_first) (stops, names)))

  good_all : (at : ℕ) (texts : List (List ℕ)) (d : Procedure (Turn P)) → base_position all ≤ at → AllGood all stop at d → AllGood all stop at (and_all reply d texts)
  good_all at [] d low good = good
  good_all at (text ∷ texts) d low good = good_all at texts (and_then reply d text) low (good_then at d text low good)

  good_beside : (at : ℕ) (policies : List Policy) (d : Procedure (Turn P)) → AllGood all stop at d → AllGood all stop at (ending_as (beside policies) d)
  good_beside at policies d good looks last given y g =
      let e = parts_as (beside policies) all stop at d looks last given y g in
      subst (λ z. IsGood stop given z.said) (sym e.is) (good e.looks last given e.end e.gives)

  good_ticks : (at : ℕ) (p : PolicyPlaces P) (now : ℤ) → base_position all ≤ at → AllGood all stop at (ticks reply p now)
  good_ticks at p now low =
      let line = said.Tick now (length (due now p.policies)) in
      elim (is_time now) as (λ t. AllGood all stop at (cond t (ending_as (beside (policies_after_tick now p.policies)) (runs_due reply now p.inner p.policies)) (misses_time p))) [
        | true ↦ good_beside at (policies_after_tick now p.policies) (runs_due reply now p.inner p.policies) (good_all at (due_texts now p.policies) (ends (turns p.inner line)) low (good_line all stop at p.inner line tt refl))
        | false ↦ good_look all stop at (λ h. refuses p (refusal bad_time h 0)) (λ h k. good_line all stop k p (said.Fault (refusal bad_time h 0)) (λ e. absurd (omega (arith, e))) refl)
      ]

  good_performs : (at : ℕ) (p : PolicyPlaces P) (stmt : PolicyStmt) → base_position all ≤ at → AllGood all stop at (performs reply p stmt)
  good_performs at p (stmts.Add job every) low =
      let policy : Policy = record { job = job; every = every; ran = None } in
      let o : History → Option Refusal = λ h. adding_refusal (position h) (roster h) (length p.policies) job every in
      good_look all stop at (λ h. turn_of_adding p (position h) policy (o h)) (λ h k. good_added all stop k p (position h) policy (o h) (adding_not_stop (position h) (roster h) (length p.policies) job every))
  good_performs at p (stmts.Tick now) low = good_ticks at p now low

  good_lets : (at : ℕ) (p : PolicyPlaces P) (stmt : PolicyStmt) (o : Option Refusal) → NotStop o → base_position all ≤ at → AllGood all stop at (lets_pass reply p stmt o)
  good_lets at p stmt (Some r) n low = good_line all stop at p (said.Fault r) (λ e. absurd (n e)) refl
  good_lets at p stmt None n low = good_performs at p stmt low

  good_reads : (at : ℕ) (p : PolicyPlaces P) (b : Block) (r : Result (PolicyStmt × Stream) Fault) → base_position all ≤ at → AllGood all stop at (reads_as reply p b r)
  good_reads at p b (Ok read) low = good_lets at p read.0 (block_refusal b Defines) (barred_not_stop b) low
  good_reads at p b (Err f) low = good_line all stop at p (said.Fault (misread f)) (λ e. absurd (misread_not_stop f e)) refl

  good_replies : (at : ℕ) (p : PolicyPlaces P) (text : List ℕ) (skip : ℕ) → base_position all ≤ at → AllGood all stop at (policy_does reply within p text skip)
  good_replies at p text skip low =
      let s = stream text skip in
      elim (begins s) as (λ t. AllGood all stop at (cond t (reads_as reply p (within p.inner) (statement s)) (ending_as (beside p.policies) (reply p.inner text skip)))) [
        | true ↦ good_reads at p (within p.inner) (statement s) low
        | false ↦ good_beside at p.policies (reply p.inner text skip) (λ looks last given y g. (tells.stops all stop at p.inner text skip looks last given y low g, tells.named all stop at p.inner text skip looks last given y low g))
      ]

-- ---- the law

pub policies_tell : {P : Type 0} (within : P → Block) (does reply : P → List ℕ → ℕ → Procedure (Turn P)) → TellsReplies within does reply → TellsReplies (λ (p : PolicyPlaces P). within p.inner) (policy_does does within) (policy_does reply within)
policies_tell within does reply tells = record {
  answered = λ alone failed all stop at old p text skip new y begun le ok on st w. told_does within does reply tells alone old all stop at le ok p text skip begun failed new y on st w;
  began = λ alone failed old p text skip new y begun w. inner_does within does reply tells alone old p text skip begun failed new y w;
  stops = λ all stop at p text skip looks last given y low g. (good_replies within does reply tells all stop at p text skip low looks last given y g).0;
  named = λ all stop at p text skip looks last given y low g. (good_replies within does reply tells all stop at p text skip low looks last given y g).1;
}
