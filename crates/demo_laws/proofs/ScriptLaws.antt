-- A demonstration, line by line.
use Rattle.std.proofs.Common.{◌≡◌, ℕ, zero, suc, ◌+◌, ◌*◌, ◌<◌, ◌≤◌, false, ◌||◌, List, [], ◌∷◌, ◌++◌, length, inl, inr, ⊎_elim, refl, ap, ◌∙◌, subst, arith}
use Rattle.std.specs.List.{flat_map, range_with_len}
use Rattle.std.proofs.Math.Nat.{zero-add}
use Rattle.ts_model.specs.History.{History, start, position}
use Rattle.ts_model.specs.Limits.{last_position}
use Rattle.ts_model.specs.Roster.{roster}
use Rattle.ts_sessions.specs.Places.{none, no_places, Places}
use Rattle.ts_sessions.specs.Script.{ScriptState, executes, final_script_state, is_refused, reads_in, session_semantics, takes_turn, with_places}
use Rattle.ts_sessions.specs.Step.{acts}
use Rattle.ts_sessions.specs.Walks.{end_of_walk}
use Rattle.demo_script.specs.Demo.{answer_line, demo_lines, insert_line, late_line, round_lines}
use Rattle.demo_laws.specs.Acts.{demo_roster}
use Rattle.demo_laws.specs.ActLaws.{HasPlaces, demo_session}
use Rattle.demo_script.specs.Lines.{IsInRound, text_of}
use Rattle.demo_script.specs.declared.lines.Line.{Line}
use Rattle.demo_script.specs.declared.lines.Line.TheVariants as kinds
use Rattle.demo_laws.specs.Statements.{act_of, roster_before}
use Rattle.demo_laws.proofs.LineLaws.{lines_act}
use Rattle.demo_laws.specs.Histories.{after_part, after_parts, after_hypertable, after_table, after_view, demo_history, history_after_rounds}
use Rattle.demo_laws.specs.ReadLaws.{ComesTo, DemonstrationsReadTheSame}
use Rattle.demo_laws.specs.Turns.{PerformsAction, refresh_reads}
use Rattle.demo_laws.proofs.HistoryLaws.{no_round, position_of_rounds, roster_of_rounds}
use Rattle.demo_laws.proofs.RefreshSteps.{refreshes_read_a_chunk}
use Rattle.demo_laws.proofs.TurnLaws.{definitions_read_nothing, inserts_read_nothing, queries_read_a_round}

-- a script at a history, in which the demonstration's session has this entry
abbrev state_at : History → List (List ℕ × Places) → ScriptState Places
state_at h sessions = record { history = h; sessions = sessions }

-- lines executed from a script state on have read this many rows, without a FAULT, and have left this history. The
-- session is outside a block
record Reached (s : ScriptState Places) (n : ℕ) (lines : List (List ℕ)) (new : History) (read : ℕ) : Type 0 where
  pub reads : reads_in session_semantics s n lines ≡ read
  pub fault : is_refused session_semantics s n lines ≡ false
  pub sessions : List (List ℕ × Places)
  pub places : Places
  pub state : final_script_state session_semantics s n lines ≡ state_at new sessions
  pub session : HasPlaces places sessions
  pub outside : places.block ≡ none

-- the same for any number of the first line, and whatever else the session carries
abbrev Reaches : History → List (List ℕ) → History → ℕ → Type 0
Reaches h lines new read = (n : ℕ) (sessions : List (List ℕ × Places)) (p : Places) → HasPlaces p sessions → p.block ≡ none → Reached (state_at h sessions) n lines new read

no_line : (h : History) → Reaches h [] h 0
no_line h n sessions p has outside = record { reads = refl; fault = refl; sessions = sessions; places = p; state = refl; session = has; outside = outside }

-- the session keeps its entry among the sessions
has_still : (p q : Places) (sessions : List (List ℕ × Places)) → HasPlaces p sessions → HasPlaces q (with_places demo_session q sessions)
has_still p q sessions has =
    ⊎_elim
    (λ new. inr (ap (with_places demo_session q) new.0))
    (λ known. inr (ap (with_places demo_session q) known))
    has

-- how many rows the rounds and what follows them read
unfoldable rounds_read : ℕ → ℕ → ℕ → ℕ
rounds_read first zero more = more
rounds_read first (suc count) more = refresh_reads first + (490 + rounds_read (first + 1) count more)

module _ (demo : ℕ) where
  -- a line, and then others
  line_first : (line : Line) (h mid new : History) (lines : List (List ℕ)) (read more : ℕ) → IsInRound line → roster h ≡ roster_before line → PerformsAction h (act_of demo line) mid read → Reaches mid lines new more → Reaches h (text_of demo line ∷ lines) new (read + more)
  line_first line h mid new lines read more within found does rest n sessions p has outside =
      let s = state_at h sessions in
      let procedure = acts p (length (text_of demo line)) h (act_of demo line) in
      let turn = end_of_walk procedure h in
      let passes = does p (length (text_of demo line)) outside in
      let later = with_places demo_session turn.places sessions in
      let executed : executes session_semantics s n (text_of demo line) ≡ takes_turn s demo_session procedure = lines_act demo n line s p within found has outside in
      let left : (executes session_semantics s n (text_of demo line)).script_state ≡ state_at mid later = ap (λ r. r.script_state) executed ∙ ap (λ g. state_at g later) passes.after in
      let reached = rest (suc n) later turn.places (has_still p turn.places sessions has) passes.outside in
      record {
        reads =
            ap (λ r. r + reads_in session_semantics (executes session_semantics s n (text_of demo line)).script_state (suc n) lines) (ap (λ r. r.reads) executed ∙ passes.reads)
            ∙ ap (λ t. read + reads_in session_semantics t (suc n) lines) left
            ∙ ap (λ m. read + m) reached.reads;
        fault =
            ap (λ b. b || is_refused session_semantics (executes session_semantics s n (text_of demo line)).script_state (suc n) lines) (ap (λ r. r.fault) executed ∙ passes.fault)
            ∙ ap (λ t. is_refused session_semantics t (suc n) lines) left
            ∙ reached.fault;
        sessions = reached.sessions;
        places = reached.places;
        state = ap (λ t. final_script_state session_semantics t (suc n) lines) left ∙ reached.state;
        session = reached.session;
        outside = reached.outside;
      }

  -- a line that reads no row, and then others
  quiet_first : (line : Line) (h mid new : History) (lines : List (List ℕ)) (more : ℕ) → IsInRound line → roster h ≡ roster_before line → PerformsAction h (act_of demo line) mid 0 → Reaches mid lines new more → Reaches h (text_of demo line ∷ lines) new more
  quiet_first line h mid new lines more within found does rest =
      subst (λ m. Reaches h (text_of demo line ∷ lines) new m) (zero-add more) (line_first line h mid new lines 0 more within found does rest)

  part_first : (round part : ℕ) (h new : History) (lines : List (List ℕ)) (more : ℕ) → round < 40 → part < 5 → position h < last_position → roster h ≡ demo_roster → Reaches (after_part demo round part h) lines new more → Reaches h (insert_line demo round part ∷ lines) new more
  part_first round part h new lines more l few room found rest =
      quiet_first (kinds.Insert round part) h (after_part demo round part h) new lines more (l, few) found (inserts_read_nothing.parts demo round part h room) rest

  -- a round, and then others
  round_first : (round : ℕ) (new : History) (lines : List (List ℕ)) (more : ℕ) → round < 40 → Reaches (history_after_rounds demo (suc round)) lines new more → Reaches (history_after_rounds demo round) (round_lines demo round ++ lines) new (refresh_reads round + (490 + more))
  round_first round new lines more l rest =
      let found = roster_of_rounds demo round in
      let h = history_after_rounds demo round in
      let next = history_after_rounds demo (suc round) in
      let read = refresh_reads round + (490 + more) in
      let at : position h ≡ 3 + 7 * round = position_of_rounds demo round in
      part_first round 0 h new _ read l (omega arith) (omega (arith, at, l)) found
      (part_first round 1 (after_part demo round 0 h) new _ read l (omega arith) (omega (arith, at, l)) found
      (part_first round 2 (after_part demo round 1 (after_part demo round 0 h)) new _ read l (omega arith) (omega (arith, at, l)) found
      (part_first round 3 (after_part demo round 2 (after_part demo round 1 (after_part demo round 0 h))) new _ read l (omega arith) (omega (arith, at, l)) found
      (part_first round 4 (after_part demo round 3 (after_part demo round 2 (after_part demo round 1 (after_part demo round 0 h)))) new _ read l (omega arith) (omega (arith, at, l)) found
      (line_first (kinds.Refresh round) (after_parts demo round h) next new (answer_line ∷ lines) (refresh_reads round) (490 + more) l found (refreshes_read_a_chunk demo round (omega (arith, position_of_rounds demo (suc round), l)))
      (line_first kinds.Answer next next new lines 490 more tt (roster_of_rounds demo (suc round)) (queries_read_a_round.rounds demo round l) rest))))))

  -- rounds, and then others
  rounds_first : (first count : ℕ) (new : History) (lines : List (List ℕ)) (more : ℕ) → first + count ≤ 40 → Reaches (history_after_rounds demo (first + count)) lines new more → Reaches (history_after_rounds demo first) (flat_map (round_lines demo) (range_with_len first count) ++ lines) new (rounds_read first count more)
  unfolding rounds_read
  rounds_first first zero new lines more l rest =
      let none : first + 0 ≡ first = omega arith in
      subst (λ m. Reaches (history_after_rounds demo m) lines new more) none rest
  rounds_first first (suc count) new lines more l rest =
      let moved : first + suc count ≡ (first + 1) + count = omega arith in
      let one : first + 1 ≡ suc first = omega arith in
      let later : Reaches (history_after_rounds demo (first + 1)) (flat_map (round_lines demo) (range_with_len (first + 1) count) ++ lines) new (rounds_read (first + 1) count more) =
      rounds_first (first + 1) count new lines more (omega arith) (subst (λ m. Reaches (history_after_rounds demo m) lines new more) moved rest) in
      round_first first new (flat_map (round_lines demo) (range_with_len (first + 1) count) ++ lines) (rounds_read (first + 1) count more) (omega arith)
      (subst (λ m. Reaches (history_after_rounds demo m) (flat_map (round_lines demo) (range_with_len (first + 1) count) ++ lines) new (rounds_read (first + 1) count more)) one later)

  -- the late row, and the last query
  end_reaches : Reaches (history_after_rounds demo 40) (late_line demo ∷ answer_line ∷ []) (demo_history demo) 490
  end_reaches =
      quiet_first kinds.LateRow (history_after_rounds demo 40) (demo_history demo) (demo_history demo) (answer_line ∷ []) 490 tt (roster_of_rounds demo 40) (inserts_read_nothing.late demo (history_after_rounds demo 40) (omega (arith, position_of_rounds demo 40)))
      (line_first kinds.Answer (demo_history demo) (demo_history demo) (demo_history demo) [] 490 0 tt (roster_of_rounds demo 40) (queries_read_a_round.last demo) (no_line (demo_history demo)))

  -- all lines
  script_reaches : Reaches start (demo_lines demo) (demo_history demo) (rounds_read 0 40 490)
  unfolding demo_lines
  script_reaches =
      let all = rounds_read 0 40 490 in
      let rounds : Reaches after_view (flat_map (round_lines demo) (range_with_len 0 40) ++ (late_line demo ∷ answer_line ∷ [])) (demo_history demo) all =
      subst (λ h. Reaches h (flat_map (round_lines demo) (range_with_len 0 40) ++ (late_line demo ∷ answer_line ∷ [])) (demo_history demo) all) (no_round demo) (rounds_first 0 40 (demo_history demo) (late_line demo ∷ answer_line ∷ []) 490 (omega arith) end_reaches) in
      quiet_first kinds.Table start after_table (demo_history demo) _ all tt refl definitions_read_nothing.table
      (quiet_first kinds.Hypertable after_table after_hypertable (demo_history demo) _ all tt refl definitions_read_nothing.hypertable
      (quiet_first kinds.Aggregate after_hypertable after_view (demo_history demo) _ all tt refl definitions_read_nothing.view rounds))

  demonstration : ComesTo demo
  unfolding rounds_read
  demonstration =
      let reached = script_reaches 1 [] no_places (inl (refl, refl)) refl in
      record { reads = reached.reads; fault = reached.fault; history = ap (λ s. s.history) reached.state }

pub demonstrations_read_the_same : DemonstrationsReadTheSame
demonstrations_read_the_same = demonstration
