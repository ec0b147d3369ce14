-- A tick is its line and then the lines of its due statements.
use Rattle.std.proofs.Common.{◌≡◌, ◌∙◌, ℕ, suc, ◌+◌, ◌≤◌, ℤ, true, false, cond, List, [], ◌∷◌, ◌++◌, append-nil, length, map, take, Option, Some, refl, sym, ap, subst, arith}
use Rattle.std.specs.Prelude.{Ok, ◌||◌}
use Rattle.std.specs.List.{AllByRecursion}
use Rattle.std.proofs.Math.Seq.{take-length}
use Rattle.std.proofs.lemmas.Bool.{le-ltb}
use Rattle.std.proofs.lemmas.List.{append_assoc}
use Rattle.ts_bucket.specs.Bucket.{is_time}
use Rattle.ts_model.specs.History.{History}
use Rattle.stmt_tokens.specs.Lines.{line_kind, session_name}
use Rattle.stmt_reader.specs.Reading.{statement as any_statement}
use Rattle.stmt_tokens.specs.Streams.{Stream, stream}
use Rattle.ts_model.specs.Numbers.{line_long}
use Rattle.stmt_syntax.specs.Limits.{longest_line}
use Rattle.result_text.specs.declared.replies.Said.TheVariants as said
use Rattle.result_text.specs.Replies.{reply_text}
use Rattle.ts_sessions.specs.declared.kinds.StatementKind.TheVariants.{Defines}
use Rattle.ts_sessions.specs.Actors.{ReadsEvent, StaysOutside}
use Rattle.ts_sessions.specs.Places.{Places, Turn, none, turns}
use Rattle.ts_sessions.specs.Procedures.{Procedure, ends, ending_as}
use Rattle.ts_sessions.specs.Script.{LineResult, ScriptState, executes, executes_as, executes_kind, final_script_state, has_fault, is_refused, output, places_of, reads_in, refused_line, takes_turn, text_of, with_places}
use Rattle.ts_sessions.specs.Step.{block_refusal, step}
use Rattle.ts_sessions.specs.Walks.{history_after, end_of_walk}
use Rattle.policy_jobs.specs.Laws.{ArePolicies, IsPolicy, IsTickLine, TicksAreTheirLines, due_lines, due_statement, line_of, policy_sessions, with_session}
use Rattle.policy_jobs.specs.Policies.{due, due_text, due_texts, is_due, policies_after_tick}
use Rattle.policy_jobs.specs.Reading.{statement}
use Rattle.policy_jobs.specs.Turns.{PolicyPlaces, and_all, and_then, behind, beside, lets_pass, misses_time, policy_does, reads_as, runs_due}
use Rattle.policy_jobs.specs.declared.jobs.Job.{Job}
use Rattle.policy_jobs.specs.declared.jobs.Job.TheVariants as jobs
use Rattle.policy_jobs.specs.declared.policies.Policy.{Policy}
use Rattle.policy_jobs.specs.declared.statements.PolicyStmt.TheVariants as stmts
use Rattle.policy_jobs.proofs.AloneLaws.{ending_then, history_then, store_of, walks_alone}
use Rattle.policy_jobs.proofs.CleanTexts.{IsSaidBy, IsSession, said_by, session_of_line}
use Rattle.policy_jobs.proofs.DueTexts.{due_clean, due_reads}
use Rattle.policy_jobs.proofs.OtherLines.{events_begin_otherwise}
use Rattle.policy_jobs.proofs.PlaceLaws.{found, put_twice}
use Rattle.policy_jobs.proofs.RunLaws.{fault_behind, or_behind, or_false, text_behind}

-- ---- statements in order

-- the outcome of the statements so far: a history, and one turn
record Came (P : Type 0) : Type 0 where
  history : History
  turn : Turn P

module _ {P : Type 0} (does : P → List ℕ → ℕ → Procedure (Turn P)) where
  abbrev came_of : Procedure (Turn P) → History → Came P
  came_of d h = record { history = history_after d h; turn = end_of_walk d h }

  abbrev next_turn : Came P → List ℕ → Turn P
  next_turn c text = end_of_walk (does c.turn.places text 0) c.history

  abbrev goes_on : Came P → List ℕ → Came P
  goes_on c text = record { history = history_after (does c.turn.places text 0) c.history; turn = behind c.turn (next_turn c text) }

  abbrev come : Came P → List (List ℕ) → Came P
  come c [] = c
  come c (text ∷ texts) = come (goes_on c text) texts

  goes_then : (d : Procedure (Turn P)) (text : List ℕ) (h : History) → came_of (and_then does d text) h ≡ goes_on (came_of d h) text
  goes_then d text h =
      let y = end_of_walk d h in
      let g = history_after d h in
      let more = does y.places text 0 in
      let first = history_then d (λ x. ending_as (behind x) (does x.places text 0)) h ∙ history_then more (λ z. ends (behind y z)) g in
      let second = ending_then d (λ x. ending_as (behind x) (does x.places text 0)) h ∙ ending_then more (λ z. ends (behind y z)) g in
      (λ i. record { history = first i; turn = second i })

  all_come : (texts : List (List ℕ)) (d : Procedure (Turn P)) (h : History) → came_of (and_all does d texts) h ≡ come (came_of d h) texts
  all_come [] d h = refl
  all_come (text ∷ texts) d h = all_come texts (and_then does d text) h ∙ ap (λ c. come c texts) (goes_then d text h)

-- ---- one line

-- two procedures have the same result over a history
record ComeTogether {A : Type 0} (d e : Procedure A) (h : History) : Type 0 where
  history : history_after d h ≡ history_after e h
  end : end_of_walk d h ≡ end_of_walk e h

-- the state of a session outside a block
abbrev outside : Option ℕ → List (ℕ × ℕ) → Places
outside cut held = record { block = none; cut = cut; held = held }

-- a statement that a policy runs does the same in any text, since it doesn't depend on the bytes from which it was read
module _ (text other : List ℕ) (skip from : ℕ) (cut : Option ℕ) (held : List (ℕ × ℕ)) (h : History) where
  due_by : (now : ℤ) (job : Job) (l m : Stream) → any_statement (stream text skip) ≡ Ok (due_statement now job, l) → any_statement (stream other from) ≡ Ok (due_statement now job, m) → ComeTogether (step (outside cut held) text skip) (step (outside cut held) other from) h
  due_by now (jobs.Refresh view lo hi) l m a b = record { history = rw (a, b) refl; end = rw (a, b) refl }
  due_by now (jobs.Drop table after) l m a b = record { history = rw (a, b) refl; end = rw (a, b) refl }

-- a text that a policy runs, and the line that has it
record IsDueLine (name text : List ℕ) : Type 0 where
  said_so : IsSaidBy 600 name text
  event : ReadsEvent (any_statement (stream text 0))
  event_there : ReadsEvent (any_statement (stream (line_of name text) (length name + 1)))
  same : (p : Places) → p.block ≡ none → (h : History) → ComeTogether (step p (line_of name text) (length name + 1)) (step p text 0) h

makes_event_of : (now : ℤ) (job : Job) (text : List ℕ) (skip : ℕ) (l : Stream) → any_statement (stream text skip) ≡ Ok (due_statement now job, l) → ReadsEvent (any_statement (stream text skip))
makes_event_of now (jobs.Refresh view from to) text skip l e = subst ReadsEvent (sym e) refl
makes_event_of now (jobs.Drop table after) text skip l e = subst ReadsEvent (sym e) refl

due_line : (name : List ℕ) (now : ℤ) (p : Policy) → IsSession name → is_time now ≡ true → IsPolicy p → IsDueLine name (due_text now p.job)
due_line name now p session time is =
    let text = due_text now p.job in
    let said_so = said_by 600 name text session (due_clean now p.job is.named time is.offsets) in
    let reads = due_reads now p.job is.named time is.offsets in
    let there = reads.behind (line_of name text) (length name + 1) said_so.within said_so.left in
    record {
      said_so = said_so;
      event = makes_event_of now p.job text 0 reads.alone.left reads.alone.is;
      event_there = makes_event_of now p.job (line_of name text) (length name + 1) there.left there.is;
      same = λ q out h.
          subst (λ b. ComeTogether (step (record { block = b; cut = q.cut; held = q.held }) (line_of name text) (length name + 1)) (step (record { block = b; cut = q.cut; held = q.held }) text 0) h) (sym out)
          (due_by (line_of name text) text (length name + 1) 0 q.cut q.held h now p.job there.left reads.alone.left there.is reads.alone.is);
    }

due_line_each : (name : List ℕ) (now : ℤ) (ps : List Policy) → IsSession name → is_time now ≡ true → ArePolicies ps → AllByRecursion (IsDueLine name) (due_texts now ps)
due_line_each name now [] session time are = tt
due_line_each name now (p ∷ ps) session time are =
    let rest = due_line_each name now ps session time are.1 in
    elim (is_due now p) as (λ t. AllByRecursion (IsDueLine name) (map (λ q. due_text now q.job) (cond t (p ∷ due now ps) (due now ps)))) [
      | true ↦ (due_line name now p session time are.0, rest)
      | false ↦ rest
    ]

-- ---- lines in order

module _ (stays : StaysOutside (λ (p : Places). p.block) step) (name : List ℕ) (policies : List Policy) (sessions : List (List ℕ × PolicyPlaces Places)) where
  -- the state of the script after the statements so far
  abbrev script_at : Came Places → ScriptState (PolicyPlaces Places)
  script_at c = record { history = c.history; sessions = with_places name (record { inner = c.turn.places; policies = policies }) sessions }

  -- the result of the line of a statement there
  abbrev result_at : Came Places → List ℕ → LineResult (PolicyPlaces Places)
  result_at c text =
      let z = next_turn step c text in
      record { script_state = script_at (goes_on step c text); text = text_of name z.said; fault = has_fault z.said; reads = z.reads }

  module _ (c : Came Places) (out : c.turn.places.block ≡ none) (text : List ℕ) (is : IsDueLine name text) where
    stays_out : (next_turn step c text).places.block ≡ none
    stays_out =
        let alone = walks_alone (step c.turn.places text 0) (store_of c.history) refl in
        stays true false (store_of c.history) c.turn.places text 0 alone.new (next_turn step c text) out is.event alone.walks

    turn_taken : takes_turn (script_at c) name (policy_does step (λ p. p.block) (record { inner = c.turn.places; policies = policies }) (line_of name text) (length name + 1)) ≡ result_at c text
    turn_taken =
        let line = line_of name text in
        let skip = length name + 1 in
        let q : PolicyPlaces Places = record { inner = c.turn.places; policies = policies } in
        let d = step c.turn.places line skip in
        let together = is.same c.turn.places out c.history in
        let other = events_begin_otherwise (stream line skip) is.event_there in
        let first = history_then d (λ y. ends (beside policies y)) c.history ∙ together.history in
        let second = ending_then d (λ y. ends (beside policies y)) c.history ∙ ap (beside policies) together.end in
        ap (λ t. takes_turn (script_at c) name (cond t (reads_as step q q.inner.block (statement (stream line skip))) (ending_as (beside policies) d))) other
        ∙ (λ i. record {
          script_state = record { history = first i; sessions = with_places name (second i).places (script_at c).sessions };
          text = text_of name (second i).said;
          fault = has_fault (second i).said;
          reads = (second i).reads;
        })
        ∙ ap (λ ss. record (result_at c text) { script_state = record { history = (goes_on step c text).history; sessions = ss } })
        (put_twice name (record { inner = c.turn.places; policies = policies }) (record { inner = (next_turn step c text).places; policies = policies }) sessions)

    one_line : (n : ℕ) → executes policy_sessions (script_at c) n (line_of name text) ≡ result_at c text
    one_line n =
        let line = line_of name text in
        let skip = length name + 1 in
        let s = script_at c in
        let short : length line ≤ longest_line = omega (arith, is.said_so.bytes) in
        ap (λ t. cond t (refused_line s n line_long) (executes_kind policy_sessions s n line (line_kind line))) (le-ltb longest_line (length line) short)
        ∙ ap (executes_kind policy_sessions s n line) is.said_so.kind
        ∙ ap (λ t. executes_as policy_sessions s (session_name line (length name) skip) t skip (places_of (session_name line (length name) skip) s.sessions)) (take-length line)
        ∙ ap (λ who. executes_as policy_sessions s who line skip (places_of who s.sessions)) is.said_so.session
        ∙ ap (executes_as policy_sessions s name line skip) (found name (record { inner = c.turn.places; policies = policies }) sessions)
        ∙ turn_taken

  -- what all of them write
  record AreLines (c : Came Places) (n : ℕ) (texts : List (List ℕ)) : Type 0 where
    text : text_of name (come step c texts).turn.said ≡ text_of name c.turn.said ++ output policy_sessions (script_at c) n (map (line_of name) texts)
    fault : has_fault (come step c texts).turn.said ≡ (has_fault c.turn.said || is_refused policy_sessions (script_at c) n (map (line_of name) texts))
    reads : (come step c texts).turn.reads ≡ c.turn.reads + reads_in policy_sessions (script_at c) n (map (line_of name) texts)
    leaves : script_at (come step c texts) ≡ final_script_state policy_sessions (script_at c) n (map (line_of name) texts)

  are_lines : (texts : List (List ℕ)) (c : Came Places) (n : ℕ) → c.turn.places.block ≡ none → AllByRecursion (IsDueLine name) texts → AreLines c n texts
  are_lines [] c n out each = record {
    text = sym (append-nil (text_of name c.turn.said));
    fault = sym (or_false (has_fault c.turn.said));
    reads = omega arith;
    leaves = refl;
  }
  are_lines (text ∷ texts) c n out each =
      let z = next_turn step c text in
      let d = goes_on step c text in
      let lines = map (line_of name) texts in
      let one = one_line c out text each.0 n in
      let rest = are_lines texts d (suc n) (stays_out c out text each.0) each.1 in
      let written = ap (λ r. r.text ++ output policy_sessions r.script_state (suc n) lines) one in
      let refused = ap (λ r. r.fault || is_refused policy_sessions r.script_state (suc n) lines) one in
      let counted = ap (λ r. r.reads + reads_in policy_sessions r.script_state (suc n) lines) one in
      record {
        text =
            rest.text
            ∙ ap (λ t. t ++ output policy_sessions (script_at d) (suc n) lines) (text_behind name c.turn.said z.said)
            ∙ append_assoc (text_of name c.turn.said) (text_of name z.said) (output policy_sessions (script_at d) (suc n) lines)
            ∙ ap (λ t. text_of name c.turn.said ++ t) (sym written);
        fault =
            rest.fault
            ∙ ap (λ t. t || is_refused policy_sessions (script_at d) (suc n) lines) (fault_behind c.turn.said z.said)
            ∙ sym (or_behind (has_fault c.turn.said) (has_fault z.said) (is_refused policy_sessions (script_at d) (suc n) lines))
            ∙ ap (λ t. has_fault c.turn.said || t) (sym refused);
        reads = omega (arith, rest.reads, counted);
        leaves = rest.leaves ∙ sym (ap (λ r. final_script_state policy_sessions r.script_state (suc n) lines) one);
      }

-- ---- the line of a tick

module _ (s : ScriptState (PolicyPlaces Places)) (n : ℕ) (name line : List ℕ) (now : ℤ) (p : PolicyPlaces Places) (is : IsTickLine name now line) (there : places_of name s.sessions ≡ Some p) (out : p.inner.block ≡ none) (time : is_time now ≡ true) where
  abbrev procedure : Procedure (Turn (PolicyPlaces Places))
  procedure = ending_as (beside (policies_after_tick now p.policies)) (runs_due step now p.inner p.policies)

  tick_does : policy_does step (λ q. q.block) p (take is.end line) is.skip ≡ procedure
  tick_does =
      let text = take is.end line in
      ap (λ t. cond t (reads_as step p p.inner.block (statement (stream text is.skip))) (ending_as (beside p.policies) (step p.inner text is.skip))) is.begun
      ∙ ap (reads_as step p p.inner.block) is.read
      ∙ ap (λ b. lets_pass step p (stmts.Tick now) (block_refusal b Defines)) out
      ∙ ap (λ t. cond t procedure (misses_time p)) time

  tick_taken : executes policy_sessions s n line ≡ takes_turn s name procedure
  tick_taken =
      ap (λ t. cond t (refused_line s n line_long) (executes_kind policy_sessions s n line (line_kind line))) (le-ltb longest_line (length line) is.short)
      ∙ ap (executes_kind policy_sessions s n line) is.kind
      ∙ ap (λ who. executes_as policy_sessions s who (take is.end line) is.skip (places_of who s.sessions)) is.session
      ∙ ap (executes_as policy_sessions s name (take is.end line) is.skip) there
      ∙ ap (takes_turn s name) tick_does

  -- it results in its statements, after its line
  abbrev first : Came Places
  first = record { history = s.history; turn = turns p.inner (said.Tick now (length (due now p.policies))) }

  abbrev last : Came Places
  last = come step first (due_texts now p.policies)

  tick_comes : executes policy_sessions s n line ≡ record {
    script_state = record { history = last.history; sessions = with_places name (record { inner = last.turn.places; policies = policies_after_tick now p.policies }) s.sessions };
    text = text_of name last.turn.said;
    fault = has_fault last.turn.said;
    reads = last.turn.reads;
  }
  tick_comes =
      let d = runs_due step now p.inner p.policies in
      let came = all_come step (due_texts now p.policies) (ends first.turn) s.history in
      let after = history_then d (λ y. ends (beside (policies_after_tick now p.policies) y)) s.history ∙ ap (λ c. c.history) came in
      let end = ending_then d (λ y. ends (beside (policies_after_tick now p.policies) y)) s.history ∙ ap (λ c. beside (policies_after_tick now p.policies) c.turn) came in
      tick_taken
      ∙ (λ i. record {
        script_state = record { history = after i; sessions = with_places name (end i).places s.sessions };
        text = text_of name (end i).said;
        fault = has_fault (end i).said;
        reads = (end i).reads;
      })

pub ticks_are_their_lines : StaysOutside (λ (p : Places). p.block) step → TicksAreTheirLines
ticks_are_their_lines stays s n k name line now p is there out time are =
    let session = subst IsSession is.session (session_of_line line is.len is.skip is.end is.kind) in
    let comes = tick_comes s n name line now p is there out time in
    let c = first s n name line now p is there out time in
    let lines = are_lines stays name (policies_after_tick now p.policies) s.sessions (due_texts now p.policies) c k out (due_line_each name now p.policies session time are) in
    record {
      text = ap (λ r. r.text) comes ∙ lines.text ∙ ap (λ t. t ++ output policy_sessions (with_session s name (record p { policies = policies_after_tick now p.policies })) k (due_lines name now p.policies)) (append-nil (reply_text name (said.Tick now (length (due now p.policies)))));
      fault = ap (λ r. r.fault) comes ∙ lines.fault;
      reads = ap (λ r. r.reads) comes ∙ lines.reads ∙ omega arith;
      leaves = ap (λ r. r.script_state) comes ∙ lines.leaves;
    }
