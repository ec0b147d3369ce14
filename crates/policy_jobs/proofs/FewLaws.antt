-- How many events a tick appends, and what refused lines leave of the policies.
use Rattle.std.proofs.Common.{◌≡◌, ◌∙◌, ℕ, ◌+◌, ◌*◌, ◌≤◌, ℤ, Bool, true, false, cond, List, [], ◌∷◌, ◌++◌, length, Option, Some, None, refl, sym, ap, subst, arith}
use Rattle.std.specs.Prelude.{Result, Ok, Err}
use Rattle.std.proofs.lemmas.List.{length-append, length-map}
use Rattle.ts_bucket.specs.Bucket.{is_time}
use Rattle.ts_model.specs.declared.outcomes.Refusal.{Refusal}
use Rattle.ts_model.specs.Calls.{refusal}
use Rattle.ts_model.specs.History.{History, position}
use Rattle.ts_model.specs.Numbers.{bad_time}
use Rattle.ts_model.specs.Roster.{roster}
use Rattle.ts_model.specs.States.{State}
use Rattle.result_text.specs.declared.replies.Said.{Said}
use Rattle.result_text.specs.declared.replies.Said.TheVariants as said
use Rattle.stmt_reader.specs.declared.faults.Fault.{Fault}
use Rattle.stmt_tokens.specs.Streams.{Stream, stream}
use Rattle.ts_sessions.specs.declared.kinds.StatementKind.TheVariants.{Defines}
use Rattle.ts_sessions.specs.LineLaws.{LinesMakeFewEvents}
use Rattle.ts_sessions.specs.Made.{made_in}
use Rattle.ts_sessions.specs.Places.{Block, Places, Turn, refuses, turns}
use Rattle.ts_sessions.specs.Procedures.{Procedure, ends, ending_as, looks}
use Rattle.ts_sessions.specs.Step.{block_refusal, misread, step}
use Rattle.ts_sessions.specs.Walks.{Walks}
use Rattle.ts_sessions.proofs.TogetherLaws.{walks_parted}
use Rattle.policy_jobs.specs.Adding.{adding_refusal}
use Rattle.policy_jobs.specs.Laws.{TicksMakeFewEvents}
use Rattle.policy_jobs.specs.Policies.{due, due_text, due_texts, policies_after_tick}
use Rattle.policy_jobs.specs.Reading.{statement}
use Rattle.policy_jobs.specs.Turns.{PolicyPlaces, and_all, and_then, behind, beside, lets_pass, misses_time, performs, policy_does, reads_as, runs_due, ticks, turn_of_adding}
use Rattle.policy_jobs.specs.Words.{begins}
use Rattle.policy_jobs.specs.declared.policies.Policy.{Policy}
use Rattle.policy_jobs.specs.declared.statements.PolicyStmt.{PolicyStmt}
use Rattle.policy_jobs.specs.declared.statements.PolicyStmt.TheVariants as stmts
use Rattle.policy_jobs.proofs.ActorLaws.{ended_as}
use Rattle.policy_jobs.proofs.RunLaws.{made_behind}

-- ---- few events

none_few : (n : ℕ) → 0 ≤ n
none_few n = omega arith

-- any walk names at most this many events
module _ (lines_make_few_events : LinesMakeFewEvents) (alone : Bool) where
  abbrev Few : {P : Type 0} → ℕ → Procedure (Turn P) → Type 0
  Few {P} n d = (failed : Bool) (old new : State) (y : Turn P) → Walks alone failed old d new y → length (made_in y.said) ≤ n

  few_end : {P : Type 0} (n : ℕ) (y : Turn P) → length (made_in y.said) ≤ n → Few n (ends y)
  few_end n y few failed old new z w = subst (λ x. length (made_in x.said) ≤ n) (sym w.2) few

  few_look : {P : Type 0} (n : ℕ) (f : History → Turn P) → ((h : History) → length (made_in (f h).said) ≤ n) → Few n (looks (λ h. ends (f h)))
  few_look n f few failed old new y w = subst (λ x. length (made_in x.said) ≤ n) (sym w.rest.2) (few w.mid.history)

  few_then : (n : ℕ) (d : Procedure (Turn Places)) (text : List ℕ) → Few n d → Few (n + 3) (and_then step d text)
  few_then n d text few failed old new y w =
      let p = walks_parted alone failed old d (λ x. ending_as (behind x) (step x.places text 0)) new y w in
      let e = ended_as (behind p.end) alone p.failed_then p.mid (step p.end.places text 0) new y p.walks_then in
      let one : length (made_in p.end.said) ≤ n = few p.failed_first old p.mid p.end p.walks_first in
      let more : length (made_in e.end.said) ≤ 3 = lines_make_few_events alone p.failed_then p.mid p.end.places text 0 new e.end e.walks in
      let both : length (made_in y.said) ≡ length (made_in p.end.said) + length (made_in e.end.said) =
      ap (λ z. length (made_in z.said)) e.is ∙ ap length (made_behind p.end.said e.end.said) ∙ length-append (made_in p.end.said) (made_in e.end.said) in
      omega (arith, one, more, both)

  few_all : (texts : List (List ℕ)) (n : ℕ) (d : Procedure (Turn Places)) → Few n d → Few (n + 3 * length texts) (and_all step d texts)
  few_all [] n d few = let same : n ≡ n + 3 * 0 = omega arith in subst (λ m. Few m d) same few
  few_all (text ∷ texts) n d few =
      let same : n + 3 + 3 * length texts ≡ n + 3 * length (text ∷ texts) = omega arith in
      subst (λ m. Few m (and_all step (and_then step d text) texts)) same (few_all texts (n + 3) (and_then step d text) (few_then n d text few))

  few_beside : (policies : List Policy) (n : ℕ) (d : Procedure (Turn Places)) → Few n d → Few n (ending_as (beside policies) d)
  few_beside policies n d few failed old new y w =
      let e = ended_as (beside policies) alone failed old d new y w in
      subst (λ z. length (made_in z.said) ≤ n) (sym e.is) (few failed old new e.end e.walks)

  few_ticks : (p : PolicyPlaces Places) (now : ℤ) → Few (3 * length (due now p.policies)) (ticks step p now)
  few_ticks p now =
      let line = turns p.inner (said.Tick now (length (due now p.policies))) in
      let texts = due_texts now p.policies in
      let most = 3 * length (due now p.policies) in
      let many : 0 + 3 * length texts ≡ most = ap (λ n. 0 + 3 * n) (length-map (due now p.policies) (λ q. due_text now q.job)) ∙ omega arith in
      elim (is_time now) as (λ t. Few most (cond t (ending_as (beside (policies_after_tick now p.policies)) (runs_due step now p.inner p.policies)) (misses_time p))) [
        | true ↦ few_beside (policies_after_tick now p.policies) most (runs_due step now p.inner p.policies)
            (subst (λ n. Few n (and_all step (ends line) texts)) many (few_all texts 0 (ends line) (few_end 0 line (none_few 0))))
        | false ↦ few_look most (λ h. refuses p (refusal bad_time h 0)) (λ h. none_few most)
      ]

pub ticks_make_few_events : LinesMakeFewEvents → TicksMakeFewEvents
ticks_make_few_events lines alone failed old p now new y w = few_ticks lines alone p now failed old new y w

-- ---- refusals

-- lines begin with this one
abbrev Leads : Said → List Said → Type 0
Leads line lines = (rest : List Said) × (lines ≡ line ∷ rest)

-- the line of a tick isn't a refusal
no_refusal : (now : ℤ) (n : ℕ) (r : Refusal) (lines : List Said) → Leads (said.Tick now n) lines → lines ≡ said.Fault r ∷ [] → ⊥
no_refusal now n r lines leads is = let same : said.Tick now n ∷ leads.0 ≡ said.Fault r ∷ [] = sym leads.1 ∙ is in cc same

module _ {P : Type 0} (does : P → List ℕ → ℕ → Procedure (Turn P)) (alone : Bool) where
  -- the reply of any walk begins with this line
  abbrev Begins : Said → Procedure (Turn P) → Type 0
  Begins line d = (failed : Bool) (old new : State) (y : Turn P) → Walks alone failed old d new y → Leads line y.said

  begins_then : (line : Said) (d : Procedure (Turn P)) (text : List ℕ) → Begins line d → Begins line (and_then does d text)
  begins_then line d text first failed old new y w =
      let p = walks_parted alone failed old d (λ x. ending_as (behind x) (does x.places text 0)) new y w in
      let e = ended_as (behind p.end) alone p.failed_then p.mid (does p.end.places text 0) new y p.walks_then in
      let one = first p.failed_first old p.mid p.end p.walks_first in
      (one.0 ++ e.end.said, ap (λ z. z.said) e.is ∙ ap (λ l. l ++ e.end.said) one.1)

  begins_all : (line : Said) (texts : List (List ℕ)) (d : Procedure (Turn P)) → Begins line d → Begins line (and_all does d texts)
  begins_all line [] d first = first
  begins_all line (text ∷ texts) d first = begins_all line texts (and_then does d text) (begins_then line d text first)

  module _ (p : PolicyPlaces P) where
    -- any walk whose reply is one refusal leaves the policies as they are
    abbrev Stays : Procedure (Turn (PolicyPlaces P)) → Type 0
    Stays d = (failed : Bool) (old new : State) (y : Turn (PolicyPlaces P)) (r : Refusal) → Walks alone failed old d new y → y.said ≡ said.Fault r ∷ [] → y.places.policies ≡ p.policies

    stays_end : (y : Turn (PolicyPlaces P)) → y.places.policies ≡ p.policies → Stays (ends y)
    stays_end y same failed old new z r w is = subst (λ x. x.places.policies ≡ p.policies) (sym w.2) same

    stays_look : (f : History → Turn (PolicyPlaces P)) → ((h : History) (r : Refusal) → (f h).said ≡ said.Fault r ∷ [] → (f h).places.policies ≡ p.policies) → Stays (looks (λ h. ends (f h)))
    stays_look f same failed old new y r w is =
        subst (λ x. x.places.policies ≡ p.policies) (sym w.rest.2) (same w.mid.history r (subst (λ x. x.said ≡ said.Fault r ∷ []) w.rest.2 is))

    stays_beside : (d : Procedure (Turn P)) → Stays (ending_as (beside p.policies) d)
    stays_beside d failed old new y r w is =
        let e = ended_as (beside p.policies) alone failed old d new y w in
        subst (λ x. x.places.policies ≡ p.policies) (sym e.is) refl

    -- the reply of a tick that ran begins with its line
    stays_run : (now : ℤ) → Stays (ending_as (beside (policies_after_tick now p.policies)) (runs_due does now p.inner p.policies))
    stays_run now failed old new y r w is =
        let n = length (due now p.policies) in
        let line = turns p.inner (said.Tick now n) in
        let d = runs_due does now p.inner p.policies in
        let e = ended_as (beside (policies_after_tick now p.policies)) alone failed old d new y w in
        let first : Leads (said.Tick now n) e.end.said =
        begins_all (said.Tick now n) (due_texts now p.policies) (ends line) (λ f o m z v. ([], ap (λ x. x.said) v.2)) failed old new e.end e.walks in
        absurd (no_refusal now n r e.end.said first (ap (λ x. x.said) (sym e.is) ∙ is))

    stays_ticks : (now : ℤ) → Stays (ticks does p now)
    stays_ticks now =
        elim (is_time now) as (λ t. Stays (cond t (ending_as (beside (policies_after_tick now p.policies)) (runs_due does now p.inner p.policies)) (misses_time p))) [
          | true ↦ stays_run now
          | false ↦ stays_look (λ h. refuses p (refusal bad_time h 0)) (λ h r is. refl)
        ]

    stays_added : (at : ℕ) (policy : Policy) (o : Option Refusal) (r : Refusal) → (turn_of_adding p at policy o).said ≡ said.Fault r ∷ [] → (turn_of_adding p at policy o).places.policies ≡ p.policies
    stays_added at policy None r is = absurd (cc is)
    stays_added at policy (Some x) r is = refl

    stays_performs : (stmt : PolicyStmt) → Stays (performs does p stmt)
    stays_performs (stmts.Add job every) =
        let policy : Policy = record { job = job; every = every; ran = None } in
        let o : History → Option Refusal = λ h. adding_refusal (position h) (roster h) (length p.policies) job every in
        stays_look (λ h. turn_of_adding p (position h) policy (o h)) (λ h r is. stays_added (position h) policy (o h) r is)
    stays_performs (stmts.Tick now) = stays_ticks now

    stays_lets : (stmt : PolicyStmt) (o : Option Refusal) → Stays (lets_pass does p stmt o)
    stays_lets stmt (Some x) = stays_end (refuses p x) refl
    stays_lets stmt None = stays_performs stmt

    stays_read : (b : Block) (r : Result (PolicyStmt × Stream) Fault) → Stays (reads_as does p b r)
    stays_read b (Ok read) = stays_lets read.0 (block_refusal b Defines)
    stays_read b (Err f) = stays_end (refuses p (misread f)) refl

    pub stays_line : (within : P → Block) (text : List ℕ) (skip : ℕ) → Stays (policy_does does within p text skip)
    stays_line within text skip =
        elim (begins (stream text skip)) as (λ t. Stays (cond t (reads_as does p (within p.inner) (statement (stream text skip))) (ending_as (beside p.policies) (does p.inner text skip)))) [
          | true ↦ stays_read (within p.inner) (statement (stream text skip))
          | false ↦ stays_beside (does p.inner text skip)
        ]
