-- What a line of a session with policies does to a history and to its image.
use Rattle.std.proofs.Common.{◌≡◌, ℕ, ◌+◌, ◌≤◌, ℤ, true, false, cond, List, [], ◌∷◌, ◌++◌, length, map, Option, Some, None, sym, refl, ap, ◌∙◌, subst, arith}
use Rattle.std.specs.Prelude.{Result, Ok, Err, is_some}
use Rattle.std.specs.List.{AllByRecursion}
use Rattle.std.proofs.lemmas.Bool.{true≢false}
use Rattle.ts_schema.specs.Names.{is_name}
use Rattle.ts_bucket.specs.Bucket.{is_time}
use Rattle.ts_model.specs.declared.images.Image.{Image}
use Rattle.ts_model.specs.declared.outcomes.Refusal.{Refusal}
use Rattle.ts_model.specs.Allowed.{all_allowed}
use Rattle.ts_model.specs.History.{History, ◌▸▸◌, position, same}
use Rattle.ts_model.specs.Numbers.{bad_time}
use Rattle.ts_model.specs.Roster.{roster}
use Rattle.image_laws.specs.Alike.{Alike}
use Rattle.image_laws.specs.Images.{IsImage}
use Rattle.image_laws.proofs.AlikeAnswers.{refusal_same}
use Rattle.stmt_syntax.specs.Limits.{longest_input}
use Rattle.stmt_reader.specs.declared.faults.Fault.{Fault}
use Rattle.stmt_tokens.specs.Streams.{Stream, stream}
use Rattle.result_text.specs.declared.replies.Said.TheVariants as said
use Rattle.ts_sessions.specs.declared.kinds.StatementKind.TheVariants.{Defines}
use Rattle.ts_sessions.specs.Actors.{StaysOutside}
use Rattle.ts_sessions.specs.Places.{Block, none, writing, reading, Places, Turn, refuses, turns}
use Rattle.ts_sessions.specs.Procedures.{Procedure, ends, ending_as}
use Rattle.ts_sessions.specs.Step.{block_refusal, misread, step}
use Rattle.ts_sessions.specs.Walks.{end_of_walk}
use Rattle.policy_jobs.specs.declared.jobs.Job.{Job}
use Rattle.policy_jobs.specs.declared.jobs.Job.TheVariants as jobs
use Rattle.policy_jobs.specs.declared.policies.Policy.{Policy}
use Rattle.policy_jobs.specs.declared.statements.PolicyStmt.{PolicyStmt}
use Rattle.policy_jobs.specs.declared.statements.PolicyStmt.TheVariants as stmts
use Rattle.policy_jobs.specs.Adding.{adding_refusal, has_offsets}
use Rattle.policy_jobs.specs.Laws.{ArePolicies, LinesKeepPolicies, policy_sessions, relation_in}
use Rattle.policy_jobs.specs.Policies.{due, due_text, due_texts, is_due, policies_after_tick}
use Rattle.policy_jobs.specs.Reading.{statement}
use Rattle.policy_jobs.specs.Runs.{IsRunnable}
use Rattle.policy_jobs.specs.Turns.{PolicyPlaces, turn_of_adding, and_all, and_then, behind, beside, lets_pass, misses_time, performs, policy_does, reads_as, runs_due, ticks}
use Rattle.policy_jobs.specs.Words.{begins}
use Rattle.policy_jobs.proofs.AloneLaws.{store_of, walks_alone}
use Rattle.policy_jobs.proofs.DueLaws.{lines_keep_policies}
use Rattle.policy_jobs.proofs.DueTexts.{refresh_runs, retention_runs}
use Rattle.image_runs.proofs.CallLaws.{SameTurn}
use Rattle.image_runs.proofs.LineLaws.{step_along}
use Rattle.image_runs.proofs.PlaceLaws.{BlockFits, PlacesFit, places_on}
use Rattle.image_runs.proofs.ScriptLaws.{LinesGoOn}
use Rattle.image_runs.proofs.TwinLaws.{Alongside, SameEnd, Twins, along_as, along_ends, along_sees, along_then, twins_alike, twins_on}

-- the state of a session with policies fits a history
pub record PolicyFits (base used : ℕ) (h : History) (p : PolicyPlaces Places) : Type 0 where
  pub inner : PlacesFit base used h p.inner
  pub policies : ArePolicies p.policies

-- the state of the session in it fits the history
abbrev InnerFits : ℕ → ℕ → History → PolicyPlaces Places → Type 0
InnerFits base used h p = PlacesFit base used h p.inner

-- two turns end the same, by the state of the session in them
abbrev InnerEnd : ℕ → ℕ → History → Turn (PolicyPlaces Places) → Turn (PolicyPlaces Places) → Type 0
InnerEnd base used = SameEnd (InnerFits base used)

-- ---- what policies run

due_runs : (now : ℤ) (job : Job) → is_name (relation_in job) ≡ true → is_time now ≡ true → has_offsets job ≡ true → IsRunnable (due_text now job)
due_runs now (jobs.Refresh view from to) named time offsets = refresh_runs now view from to named time offsets
due_runs now (jobs.Drop table after) named time offsets = retention_runs now table after named time offsets

due_run_each : (now : ℤ) (ps : List Policy) → is_time now ≡ true → ArePolicies ps → AllByRecursion IsRunnable (due_texts now ps)
due_run_each now [] time are = tt
due_run_each now (p ∷ ps) time are =
    let rest = due_run_each now ps time are.1 in
    elim (is_due now p) as (λ t. AllByRecursion IsRunnable (map (λ q. due_text now q.job) (cond t (p ∷ due now ps) (due now ps)))) [
      | true ↦ (due_runs now p.job are.0.named time are.0.offsets, rest)
      | false ↦ rest
    ]

-- ---- statements in order, outside a block

-- two turns end the same outside a block, with nothing queued
record RunEnd (base : ℕ) (k : History) (t u : Turn Places) : Type 0 where
  same_end : SameTurn base 0 k t u
  out : u.places.block ≡ none

-- outside a block nothing is queued, whatever texts there were
out_fits : (base used more : ℕ) (k : History) (p : Places) → p.block ≡ none → PlacesFit base used k p → PlacesFit base more k p
out_fits base used more k p out fit = record { block = subst (λ b. BlockFits base more k b) (sym out) tt; held = fit.held }

module _ (stays : StaysOutside (λ (p : Places). p.block) step) (h : History) (i : Image) (ok : all_allowed h ≡ true) (is : IsImage h i) where
  one_run : (g k : History) → Twins h i g k → (p : Places) → p.block ≡ none → PlacesFit i.pos 0 k p → (text : List ℕ) → IsRunnable text → Alongside (RunEnd i.pos) g k (step p text 0) (step p text 0)
  one_run g k t p out fit text runs =
      let room : 0 + length text ≤ longest_input = omega (arith, runs.short) in
      let along = step_along h i ok is 0 p g k t text 0 room runs.short (omega arith) fit in
      let alone = walks_alone (step p text 0) (store_of k) refl in
      let stayed : (end_of_walk (step p text 0) k).places.block ≡ none = stays true false (store_of k) p text 0 alone.new (end_of_walk (step p text 0) k) out runs.event alone.walks in
      record {
        events = along.events;
        first = along.first;
        second = along.second;
        allowed = along.allowed;
        ends_go = record {
          same_end = record {
            places = along.ends_go.places;
            said = along.ends_go.said;
            fit = out_fits i.pos (0 + length text) 0 (k ▸▸ along.events) (end_of_walk (step p text 0) k).places stayed along.ends_go.fit;
          };
          out = stayed;
        };
      }

  behind_end : (l : History) (x y u v : Turn Places) → RunEnd i.pos l u v → x.said ≡ y.said → RunEnd i.pos l (behind x u) (behind y v)
  behind_end l x y u v end e = record {
    same_end = record {
      places = end.same_end.places;
      said = ap (λ s. s ++ u.said) e ∙ ap (λ s. y.said ++ s) end.same_end.said;
      fit = end.same_end.fit;
    };
    out = end.out;
  }

  then_run : (g k : History) → Twins h i g k → (d e : Procedure (Turn Places)) (text : List ℕ) → IsRunnable text → Alongside (RunEnd i.pos) g k d e → Alongside (RunEnd i.pos) g k (and_then step d text) (and_then step e text)
  then_run g k t d e text runs a =
      along_then (RunEnd i.pos) (RunEnd i.pos) g k d e (λ y. ending_as (behind y) (step y.places text 0)) (λ y. ending_as (behind y) (step y.places text 0)) a
      (λ es x y allowed end.
      subst (λ q. Alongside (RunEnd i.pos) (g ▸▸ es) (k ▸▸ es) (ending_as (behind x) (step q text 0)) (ending_as (behind y) (step y.places text 0))) (sym end.same_end.places)
      (along_as (RunEnd i.pos) (RunEnd i.pos) (g ▸▸ es) (k ▸▸ es) (step y.places text 0) (step y.places text 0) (behind x) (behind y)
      (one_run (g ▸▸ es) (k ▸▸ es) (twins_on h i g k es t allowed) y.places end.out end.same_end.fit text runs)
      (λ more u v went. behind_end ((k ▸▸ es) ▸▸ more) x y u v went end.same_end.said)))

  all_run : (g k : History) → Twins h i g k → (d e : Procedure (Turn Places)) (texts : List (List ℕ)) → AllByRecursion IsRunnable texts → Alongside (RunEnd i.pos) g k d e → Alongside (RunEnd i.pos) g k (and_all step d texts) (and_all step e texts)
  all_run g k t d e [] each a = a
  all_run g k t d e (text ∷ texts) each a = all_run g k t (and_then step d text) (and_then step e text) texts each.1 (then_run g k t d e text each.0 a)

  -- ---- a line

  module _ (used bytes : ℕ) (few : used + bytes ≤ longest_input) (p : PolicyPlaces Places) (g k : History) (t : Twins h i g k) (fit : PolicyFits i.pos used k p) where
    abbrev End : History → Turn (PolicyPlaces Places) → Turn (PolicyPlaces Places) → Type 0
    End = InnerEnd i.pos (used + bytes)

    abbrev Along : Procedure (Turn (PolicyPlaces Places)) → Procedure (Turn (PolicyPlaces Places)) → Type 0
    Along d e = Alongside End g k d e

    alike : Alike g k
    alike = twins_alike h i ok is g k t

    now : PlacesFit i.pos (used + bytes) k p.inner
    now = places_on i.pos used (used + bytes) k k p.inner same (omega arith) (omega (arith, few)) fit.inner

    refused : (r : Refusal) → Along (ends (refuses p r)) (ends (refuses p r))
    refused r = along_ends End g k _ _ t.allowed (record { places = refl; said = refl; fit = now })

    added_end : (at : ℕ) (policy : Policy) (r : Option Refusal) → End k (turn_of_adding p at policy r) (turn_of_adding p at policy r)
    added_end at policy (Some r) = record { places = refl; said = refl; fit = now }
    added_end at policy None = record { places = refl; said = refl; fit = now }

    -- a new policy
    abbrev new_policy : Job → ℤ → Policy
    new_policy job every = record { job = job; every = every; ran = None }

    adds_along : (job : Job) (every : ℤ) → Along (performs step p (stmts.Add job every)) (performs step p (stmts.Add job every))
    adds_along job every =
        along_sees End g k _ _ _ _
        (along_ends End g k _ _ t.allowed
        (subst (λ at. End k (turn_of_adding p at (new_policy job every) (adding_refusal at (roster g) (length p.policies) job every)) (turn_of_adding p (position k) (new_policy job every) (adding_refusal (position k) (roster k) (length p.policies) job every))) (sym alike.places)
        (subst (λ r. End k (turn_of_adding p (position k) (new_policy job every) (adding_refusal (position k) r (length p.policies) job every)) (turn_of_adding p (position k) (new_policy job every) (adding_refusal (position k) (roster k) (length p.policies) job every))) (sym alike.relations)
        (added_end (position k) (new_policy job every) (adding_refusal (position k) (roster k) (length p.policies) job every)))))

    misses_along : Along (misses_time p) (misses_time p)
    misses_along =
        along_sees End g k _ _ _ _
        (along_ends End g k _ _ t.allowed (record { places = refl; said = ap (λ r. said.Fault r ∷ []) (refusal_same bad_time 0 g k alike.places); fit = now }))

    runs_along : (time : ℤ) → is_time time ≡ true → p.inner.block ≡ none → Along (ending_as (beside (policies_after_tick time p.policies)) (runs_due step time p.inner p.policies)) (ending_as (beside (policies_after_tick time p.policies)) (runs_due step time p.inner p.policies))
    runs_along time good out =
        let first : Turn Places = turns p.inner (said.Tick time (length (due time p.policies))) in
        let line : Alongside (RunEnd i.pos) g k (ends first) (ends first) =
        along_ends (RunEnd i.pos) g k first first t.allowed (record { same_end = record { places = refl; said = refl; fit = out_fits i.pos used 0 k p.inner out fit.inner }; out = out }) in
        along_as (RunEnd i.pos) End g k (runs_due step time p.inner p.policies) (runs_due step time p.inner p.policies) (beside (policies_after_tick time p.policies)) (beside (policies_after_tick time p.policies))
        (all_run g k t (ends first) (ends first) (due_texts time p.policies) (due_run_each time p.policies good fit.policies) line)
        (λ es u v end. record {
          places = ap (λ q. record { inner = q; policies = policies_after_tick time p.policies }) end.same_end.places;
          said = end.same_end.said;
          fit = out_fits i.pos 0 (used + bytes) (k ▸▸ es) v.places end.out end.same_end.fit;
        })

    ticks_along : (time : ℤ) → p.inner.block ≡ none → Along (ticks step p time) (ticks step p time)
    ticks_along time out =
        elim (is_time time) as (λ b. is_time time ≡ b → Along (cond b (ending_as (beside (policies_after_tick time p.policies)) (runs_due step time p.inner p.policies)) (misses_time p)) (cond b (ending_as (beside (policies_after_tick time p.policies)) (runs_due step time p.inner p.policies)) (misses_time p))) [
          | true ↦ λ good. runs_along time good out
          | false ↦ λ _. misses_along
        ] refl

    performs_along : (stmt : PolicyStmt) → p.inner.block ≡ none → Along (performs step p stmt) (performs step p stmt)
    performs_along (stmts.Add job every) out = adds_along job every
    performs_along (stmts.Tick time) out = ticks_along time out

    passes_along : (stmt : PolicyStmt) (o : Option Refusal) → (o ≡ None → p.inner.block ≡ none) → Along (lets_pass step p stmt o) (lets_pass step p stmt o)
    passes_along stmt (Some r) out = refused r
    passes_along stmt None out = performs_along stmt (out refl)

    -- no block lets a statement on policies pass
    outside : (b : Block) → block_refusal b Defines ≡ None → b ≡ none
    outside none e = refl
    outside (writing ops n) e = absurd (true≢false (ap is_some e))
    outside (reading at) e = absurd (true≢false (ap is_some e))

    read_along : (r : Result (PolicyStmt × Stream) Fault) → Along (reads_as step p p.inner.block r) (reads_as step p p.inner.block r)
    read_along (Ok read) = passes_along read.0 (block_refusal p.inner.block Defines) (outside p.inner.block)
    read_along (Err f) = refused (misread f)

  others_along : (used : ℕ) (p : PolicyPlaces Places) (g k : History) → Twins h i g k → (text : List ℕ) (skip : ℕ) → used + length text ≤ longest_input → length text ≤ 65536 → skip ≤ length text → PlacesFit i.pos used k p.inner
      → Alongside (InnerEnd i.pos (used + length text)) g k (ending_as (beside p.policies) (step p.inner text skip)) (ending_as (beside p.policies) (step p.inner text skip))
  others_along used p g k t text skip few short within fit =
      along_as (SameTurn i.pos (used + length text)) (InnerEnd i.pos (used + length text)) g k (step p.inner text skip) (step p.inner text skip) (beside p.policies) (beside p.policies)
      (step_along h i ok is used p.inner g k t text skip few short within fit)
      (λ es u v end. record { places = ap (λ q. record { inner = q; policies = p.policies }) end.places; said = end.said; fit = end.fit })

  line_along : (used : ℕ) (p : PolicyPlaces Places) (g k : History) → Twins h i g k → (text : List ℕ) (skip : ℕ) → used + length text ≤ longest_input → length text ≤ 65536 → skip ≤ length text → PolicyFits i.pos used k p
      → Alongside (InnerEnd i.pos (used + length text)) g k (policy_does step (λ q. q.block) p text skip) (policy_does step (λ q. q.block) p text skip)
  line_along used p g k t text skip few short within fit =
      elim (begins (stream text skip)) as (λ b. Alongside (InnerEnd i.pos (used + length text)) g k (cond b (reads_as step p p.inner.block (statement (stream text skip))) (ending_as (beside p.policies) (step p.inner text skip))) (cond b (reads_as step p p.inner.block (statement (stream text skip))) (ending_as (beside p.policies) (step p.inner text skip)))) [
        | true ↦ read_along used (length text) few p g k t fit (statement (stream text skip))
        | false ↦ others_along used p g k t text skip few short within fit.inner
      ]

-- so the law is true of sessions with policies
pub policy_lines : StaysOutside (λ (p : Places). p.block) step → LinesGoOn policy_sessions PolicyFits
policy_lines stays = record {
  opening = λ base used h n. record { inner = record { block = tt; held = tt }; policies = tt };
  fits_on = λ base used more g h p on le few fit. record { inner = places_on base used more g h p.inner on le few fit.inner; policies = fit.policies };
  lines = λ h i ok is used p g k t text skip few short within fit.
      let along = line_along stays h i ok is used p g k t text skip few short within fit in
      let does = policy_does step (λ (q : Places). q.block) p text skip in
      let alone = walks_alone does (store_of k) refl in
      let keeps : LinesKeepPolicies Places = lines_keep_policies in
      record {
        events = along.events;
        first = along.first;
        second = along.second;
        allowed = along.allowed;
        ends_go = record {
          places = along.ends_go.places;
          said = along.ends_go.said;
          fit = record {
            inner = along.ends_go.fit;
            policies = keeps.policies (λ (q : Places). q.block) step true false (store_of k) p text skip alone.new (end_of_walk does k) fit.policies within alone.walks;
          };
        };
      };
}
