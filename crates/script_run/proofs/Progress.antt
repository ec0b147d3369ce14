-- The progress of a run.
use Rattle.std.proofs.Common.{◌≡◌, ℕ, suc, ◌+◌, ◌<◌, ◌≤◌, ◌^◌, Bool, false, true, ◌||◌, List, [], ◌∷◌, ◌++◌, length, Option, refl, sym, ap, ◌∙◌, subst, arith, append-nil, append_assoc, length-append}
use Rattle.std.specs.Io.KnownBytes.{Appends}
use Rattle.std.proofs.KnownBytes.{Appends-nil, Appends-trans}
use Rattle.std.proofs.Math.Bool.{or-false, or-true}
use Rattle.ts_schema.specs.Counts.{raised_by}
use Rattle.ts_io.specs.declared.limits.TheConstants.{LINE_LIMIT}
use Rattle.ts_model.specs.History.{History, Begins, same}
use Rattle.ts_model.specs.States.{State}
use Rattle.ts_model.specs.Numbers.{line_long}
use Rattle.result_text.specs.Replies.{line_fault_text}
use Rattle.ts_sessions.specs.Script.{Semantics, LineResult, ScriptState, executes, opening_script_state, refused_line}
use Rattle.ts_sessions.specs.Step.{bare}
use Rattle.script_run.specs.declared.scripts.ScriptStop.{ScriptStop}
use Rattle.script_run.specs.declared.scripts.ScriptStop.TheVariants.{WriteFault, DiskFault, NoMemory}
use Rattle.script_run.specs.RunStates.{IsBetween, FailedBetween}
use Rattle.script_run.specs.LineEnds.{LineWritten}
use Rattle.script_run.specs.Stops.{EventFailed, LineCut, LineGivenUp, RefusalCut, ReplyCut}
use Rattle.script_run.specs.Stopped.{end_of_input, end_of_stop}
use Rattle.script_run.specs.Runs.{Executed, Left, Ran, ReadWhole, StoppedAtEvent, StoppedBefore, StoppedWithin, StoppedWriting, executed_lines, has_fault, history_of, output_of, reads_of, script_state_after}
use Rattle.script_run.proofs.Counting.{raised_twice}
use Rattle.script_run.proofs.LineLaws.{line_begins, long_line}
use Rattle.script_run.proofs.ScriptLaws.{final-append, output-append, reads-append, refused-append}
use Rattle.ts_sessions.proofs.NameCheckWalks.{unraised}

-- a script with these sessions at the history of a store
abbrev pub script_state_at : {P : Type 0} → State → List (List ℕ × P) → ScriptState P
script_state_at s sessions = record { history = s.history; sessions = sessions }

-- the first lines of a script over a history are done and the others are left. The next line has number n and finds
-- this state of the script. The replies to the lines done were written, and the flag says whether one of them is a
-- FAULT. The rows that these lines read were counted
pub record Progress {P : Type 0} (semantics : Semantics P) (h : History) (lines rest : List (List ℕ)) (left : Left) (sessions : List (List ℕ × P)) (n : ℕ) (refused : Bool) : Type 0 where
  pub done : List (List ℕ)
  pub split : lines ≡ done ++ rest
  pub numbered : suc (length done) ≡ n
  pub reached : script_state_after semantics h done ≡ script_state_at left.store sessions
  pub wrote : Appends left.written_before left.written (output_of semantics h done)
  pub fault : has_fault semantics h done ≡ refused
  pub counted : left.read ≡ raised_by (reads_of semantics h done) left.read_before

-- the same, by the store and the sink before the run and now
abbrev pub Come : {P : Type 0} → Semantics P → History → Option (List ℕ) → ℕ → State → Option (List ℕ) → ℕ → List (List ℕ × P) → ℕ → Bool → List (List ℕ) → List (List ℕ) → Type 0
Come semantics h before read_before s w read sessions n refused lines rest =
    Progress semantics h lines rest (record { store = s; written_before = before; written = w; read_before = read_before; read = read }) sessions n refused

module _ {P : Type 0} (semantics : Semantics P) (h : History) where
  -- a line follows the lines that are done
  module _ (done : List (List ℕ)) (line : List ℕ) (n : ℕ) (script_state : ScriptState P) (e : suc (length done) ≡ n) (f : script_state_after semantics h done ≡ script_state) where
    number : 1 + length done ≡ n
    number = omega (arith, e)

    here : LineResult P
    here = executes semantics script_state n line

    text_then : output_of semantics h (done ++ line ∷ []) ≡ output_of semantics h done ++ (executes semantics script_state n line).text
    text_then =
        output-append semantics (opening_script_state h) 1 done (line ∷ [])
        ∙ (λ i. output_of semantics h done ++ ((executes semantics (f i) (number i) line).text ++ []))
        ∙ ap (λ l. output_of semantics h done ++ l) (append-nil (executes semantics script_state n line).text)

    script_state_then : script_state_after semantics h (done ++ line ∷ []) ≡ (executes semantics script_state n line).script_state
    script_state_then = final-append semantics (opening_script_state h) 1 done (line ∷ []) ∙ (λ i. (executes semantics (f i) (number i) line).script_state)

    fault_then : has_fault semantics h (done ++ line ∷ []) ≡ (has_fault semantics h done || (executes semantics script_state n line).fault)
    fault_then =
        refused-append semantics (opening_script_state h) 1 done (line ∷ [])
        ∙ (λ i. has_fault semantics h done || ((executes semantics (f i) (number i) line).fault || false))
        ∙ ap (λ b. has_fault semantics h done || b) (or-false (executes semantics script_state n line).fault)

    plus_none : (a b : ℕ) → a + (b + 0) ≡ a + b
    plus_none a b = omega arith

    reads_then : reads_of semantics h (done ++ line ∷ []) ≡ reads_of semantics h done + (executes semantics script_state n line).reads
    reads_then =
        reads-append semantics (opening_script_state h) 1 done (line ∷ [])
        ∙ (λ i. reads_of semantics h done + ((executes semantics (f i) (number i) line).reads + 0))
        ∙ plus_none (reads_of semantics h done) (executes semantics script_state n line).reads

    -- the result of that line
    executed_then : executes semantics (script_state_after semantics h done) (suc (length done)) line ≡ executes semantics script_state n line
    executed_then = (λ i. executes semantics (f i) (e i) line)

  -- at the start no line is done
  pub starts : (lines : List (List ℕ)) (s : State) (w : Option (List ℕ)) (read : ℕ) (sessions : List (List ℕ × P)) (n : ℕ) (refused : Bool) → s.history ≡ h → read < 2 ^ 64 → sessions ≡ [] → n ≡ 1 → refused ≡ false
      → Come semantics h w read s w read sessions n refused lines lines
  starts lines s w read sessions n refused there small nobody first quiet = record {
    done = [];
    split = refl;
    numbered = sym first;
    reached = (λ i. record { history = sym there i; sessions = sym nobody i });
    wrote = Appends-nil w;
    fault = sym quiet;
    counted = unraised read small;
  }

  module _ (lines rest : List (List ℕ)) (line : List ℕ) (before : Option (List ℕ)) (read_before : ℕ) where
    abbrev left_at : State → Option (List ℕ) → ℕ → Left
    left_at s w read = record { store = s; written_before = before; written = w; read_before = read_before; read = read }

    module _ (s t : State) (w v : Option (List ℕ)) (read after : ℕ) (sessions later : List (List ℕ × P)) (n m : ℕ) (was is : Bool) (p : Progress semantics h lines (line ∷ rest) (left_at s w read) sessions n was) where
      -- one more line
      pub goes_on : m ≡ n + 1 → LineWritten (executes semantics (script_state_at s sessions) n line) (script_state_at t later) w v was is read after → Progress semantics h lines rest (left_at t v after) later m is
      goes_on e l =
          let script_state = script_state_at s sessions in
          let line_result = executes semantics script_state n line in
          record {
            done = p.done ++ line ∷ [];
            split = p.split ∙ sym (append_assoc p.done (line ∷ []) rest);
            numbered = omega (arith, p.numbered, length-append p.done (line ∷ []));
            reached = script_state_then p.done line n script_state p.numbered p.reached ∙ sym l.reached;
            wrote = subst (Appends before v) (sym (text_then p.done line n script_state p.numbered p.reached)) (Appends-trans before w v (output_of semantics h p.done) line_result.text p.wrote l.wrote);
            fault = fault_then p.done line n script_state p.numbered p.reached ∙ ap (λ b. b || line_result.fault) p.fault ∙ sym l.refused;
            counted = raised_twice (reads_of semantics h p.done) line_result.reads read_before read after p.counted l.counted
                ∙ ap (λ k. raised_by k read_before) (sym (reads_then p.done line n script_state p.numbered p.reached));
          }

      -- the run stopped at the line, with a part of its reply written
      pub stops_writing : ReplyCut (executes semantics (script_state_at s sessions) n line) (script_state_at t later) w v read after → StoppedWriting semantics h lines (left_at t v after)
      stops_writing l =
          let script_state = script_state_at s sessions in
          let line_result = executes semantics script_state n line in
          record {
            done = p.done;
            line = line;
            rest = rest;
            part = l.wrote.done;
            todo = l.wrote.todo;
            split = p.split;
            reply = ap (λ q. q.text) (executed_then p.done line n script_state p.numbered p.reached) ∙ l.wrote.split;
            wrote = Appends-trans before w v (output_of semantics h p.done) l.wrote.done p.wrote l.wrote.grew;
            history = ap (λ q. q.history) (l.reached ∙ sym (script_state_then p.done line n script_state p.numbered p.reached));
            counted = raised_twice (reads_of semantics h p.done) line_result.reads read_before read after p.counted l.counted
                ∙ ap (λ k. raised_by k read_before) (sym (reads_then p.done line n script_state p.numbered p.reached));
          }

      -- the history before the line, and after it
      from_here : (X : History → Type 0) → X s.history → X (history_of semantics h p.done)
      from_here X x = subst X (sym (ap (λ q. q.history) p.reached)) x

      to_there : (X : History → Type 0) → X (executes semantics (script_state_at s sessions) n line).script_state.history → X (history_of semantics h (p.done ++ line ∷ []))
      to_there X x = subst X (sym (ap (λ q. q.history) (script_state_then p.done line n (script_state_at s sessions) p.numbered p.reached))) x

      -- the disk failed at an event of the line
      pub stops_at_event : EventFailed (executes semantics (script_state_at s sessions) n line) s t w v read after → StoppedAtEvent semantics h lines (left_at t v after)
      stops_at_event l = record {
        done = p.done;
        line = line;
        rest = rest;
        split = p.split;
        wrote = subst (λ x. Appends before x (output_of semantics h p.done)) (sym l.wrote) p.wrote;
        failed = from_here (λ x. FailedBetween x (history_of semantics h (p.done ++ line ∷ [])) t) (to_there (λ x. FailedBetween s.history x t) l.failed);
        counted = subst (λ k. k ≤ after) p.counted l.counted;
      }

      -- the line ran out of memory
      pub stops_within : LineGivenUp (executes semantics (script_state_at s sessions) n line) s t w v read after → StoppedWithin semantics h lines (left_at t v after)
      stops_within l = record {
        done = p.done;
        rest = line ∷ rest;
        split = p.split;
        wrote = subst (λ x. Appends before x (output_of semantics h p.done)) (sym l.wrote) p.wrote;
        between = from_here (λ x. IsBetween x (history_of semantics h (p.done ++ line ∷ [])) t) (to_there (λ x. IsBetween s.history x t) l.between);
        counted = subst (λ k. k ≤ after) p.counted l.counted;
      }

      pub stops_at : (stop : ScriptStop) (input : List ℕ) (end_of_source : Option (List ℕ)) → lines ≡ executed_lines input → LineCut stop (executes semantics (script_state_at s sessions) n line) s t (script_state_at t later) w v read after
          → Ran (end_of_stop stop) semantics h input end_of_source (left_at t v after)
      stops_at WriteFault input end_of_source e l = subst (λ ls. StoppedWriting semantics h ls (left_at t v after)) e (stops_writing l)
      stops_at DiskFault input end_of_source e l = subst (λ ls. StoppedAtEvent semantics h ls (left_at t v after)) e (stops_at_event l)
      stops_at NoMemory input end_of_source e l = subst (λ ls. StoppedWithin semantics h ls (left_at t v after)) e (stops_within l)

  module _ (lines rest : List (List ℕ)) (left : Left) (sessions : List (List ℕ × P)) (n : ℕ) (refused : Bool) (p : Progress semantics h lines rest left sessions n refused) where
    first_done : Executed semantics h p.done left
    first_done = record { history = sym (ap (λ q. q.history) p.reached); wrote = p.wrote; counted = p.counted }

    -- the run stopped before the next line
    pub stops_before : StoppedBefore semantics h lines left
    stops_before = record { done = p.done; rest = rest; split = p.split; executed_first = first_done }

    -- no line was left
    pub all_done : rest ≡ [] → Executed semantics h lines left
    all_done none =
        let all : p.done ≡ lines = sym (p.split ∙ ap (λ l. p.done ++ l) none ∙ append-nil p.done) in
        subst (λ ls. Executed semantics h ls left) all first_done

    pub all_faults : rest ≡ [] → has_fault semantics h lines ≡ refused
    all_faults none =
        let all : p.done ≡ lines = sym (p.split ∙ ap (λ l. p.done ++ l) none ∙ append-nil p.done) in
        ap (has_fault semantics h) (sym all) ∙ p.fault

  -- a run that never began
  pub never_began : (lines : List (List ℕ)) (s : State) (w : Option (List ℕ)) (read : ℕ) → s.history ≡ h → read < 2 ^ 64
      → StoppedWithin semantics h lines (record { store = s; written_before = w; written = w; read_before = read; read = read })
  never_began [] s w read there small = record {
    done = [];
    rest = [];
    split = refl;
    wrote = Appends-nil w;
    between = subst (λ g. IsBetween g g s) there (record { began = same; within = same });
    counted = subst (λ k. k ≤ read) (unraised read small) (omega arith);
  }
  never_began (line ∷ lines) s w read there small = record {
    done = [];
    rest = line ∷ lines;
    split = refl;
    wrote = Appends-nil w;
    between = record { began = subst (λ g. Begins g s.history) there same; within = subst (λ g. Begins g (history_of semantics h (line ∷ []))) (sym there) (line_begins semantics (opening_script_state h) 1 line) };
    counted = subst (λ k. k ≤ read) (unraised read small) (omega arith);
  }

-- a run that ended at the end of its input
pub end_ran : {P : Type 0} (refused : Bool) (semantics : Semantics P) (h : History) (input : List ℕ) (rest : Option (List ℕ)) (left : Left) → ReadWhole input rest → Executed semantics h (executed_lines input) left → has_fault semantics h (executed_lines input) ≡ refused
    → Ran (end_of_input refused) semantics h input rest left
end_ran true semantics h input rest left whole done fault = (whole, done, fault)
end_ran false semantics h input rest left whole done fault = (whole, done, fault)

-- ---- a line that is too long

module _ {P : Type 0} (semantics : Semantics P) (script_state : ScriptState P) (k : ℕ) (line : List ℕ) (long : LINE_LIMIT < length line) where
  pub refused_written : (next : ScriptState P) (w v : Option (List ℕ)) (was is : Bool) (read : ℕ) → read < 2 ^ 64 → next ≡ script_state → Appends w v (line_fault_text k (bare line_long)) → is ≡ true
      → LineWritten (executes semantics script_state k line) next w v was is read read
  refused_written next w v was is read small kept wrote refused =
      let written : LineWritten (refused_line script_state k line_long) next w v was is read read = record { reached = kept; wrote = wrote; refused = refused ∙ sym (or-true was); counted = unraised read small } in
      subst (λ p. LineWritten p next w v was is read read) (sym (long_line semantics script_state k line long)) written

  pub refused_cut : (stop : ScriptStop) (s : State) (next : ScriptState P) (w v : Option (List ℕ)) (read : ℕ) → read < 2 ^ 64 → script_state.history ≡ s.history → next ≡ script_state → RefusalCut stop w v (line_fault_text k (bare line_long))
      → LineCut stop (executes semantics script_state k line) s s next w v read read
  refused_cut WriteFault s next w v read small there kept part =
      let cut : ReplyCut (refused_line script_state k line_long) next w v read read = record { reached = kept; wrote = part; counted = unraised read small } in
      subst (λ p. ReplyCut p next w v read read) (sym (long_line semantics script_state k line long)) cut
  refused_cut DiskFault s next w v read small there kept part = absurd part
  refused_cut NoMemory s next w v read small there kept part =
      let cut : LineGivenUp (refused_line script_state k line_long) s s w v read read = record { between = record { began = same; within = subst (λ g. Begins s.history g) (sym there) same }; wrote = part; counted = omega arith } in
      subst (λ p. LineGivenUp p s s w v read read) (sym (long_line semantics script_state k line long)) cut
