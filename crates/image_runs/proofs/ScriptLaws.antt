-- Scripts over a history and over its image, line by line, for any meaning of lines.
use Rattle.std.proofs.Common.{◌≡◌, ℕ, suc, ◌+◌, ◌≤◌, Bool, true, false, ◌||◌, cond, nat_lt, List, [], ◌∷◌, ◌++◌, length, length-take, take, Option, Some, None, sym, refl, ap, ◌∙◌, subst, arith}
use Rattle.std.specs.Prelude.{sum_by}
use Rattle.std.proofs.lemmas.Bool.{ltb-false}
use Rattle.std.proofs.lemmas.List.Sums.{sum_by-cons}
use Rattle.ts_model.specs.declared.events.Event.{Event}
use Rattle.ts_model.specs.declared.images.Image.{Image}
use Rattle.ts_model.specs.Allowed.{all_allowed}
use Rattle.ts_model.specs.History.{History, resumed, ◌▸▸◌, Begins, same}
use Rattle.ts_model.proofs.HistoryLaws.{begins_followed, followed_append}
use Rattle.image_laws.specs.Images.{IsImage}
use Rattle.stmt_syntax.specs.Limits.{longest_input, longest_line}
use Rattle.stmt_tokens.specs.Lines.{line_kind, session_name}
use Rattle.stmt_tokens.specs.declared.lines.LineKind.{LineKind}
use Rattle.stmt_tokens.specs.declared.lines.LineKind.TheVariants.{Blank, NotAscii, NoSession, Stmt}
use Rattle.stmt_tokens.proofs.StatementLines.{statement_line}
use Rattle.ts_model.specs.Numbers.{line_long, too_many_sessions}
use Rattle.result_text.specs.declared.replies.Said.TheVariants as said
use Rattle.result_text.specs.Replies.{reply_text}
use Rattle.ts_sessions.specs.Places.{Turn}
use Rattle.ts_sessions.specs.Procedures.{Procedure}
use Rattle.ts_sessions.specs.Script.{LineResult, ScriptState, Semantics, executes, executes_as, executes_kind, final_script_state, has_fault, is_refused, output, places_of, line_of_refusal, refused_line, takes_turn, text_of, with_places}
use Rattle.ts_model.specs.Limits.{most_sessions}
use Rattle.ts_sessions.specs.Step.{bare}
use Rattle.ts_sessions.specs.Walks.{end_of_walk, history_after}
use Rattle.image_runs.specs.Laws.{ScriptsGoOn}
use Rattle.image_runs.proofs.SessionLaws.{AllFit, places_there, sessions_on, sessions_with}
use Rattle.image_runs.proofs.TwinLaws.{Alongside, SameEnd, Twins, twins_alike, twins_allowed, twins_on}

-- what the law needs of the meaning of lines, and of when a session state fits a history that begins with an image.
-- This depends on the position of the image, and on how many bytes the texts of the queue have
pub record LinesGoOn {P : Type 0} (semantics : Semantics P) (Fit : ℕ → ℕ → History → P → Type 0) : Type 0 where
  pub opening : (base used : ℕ) (h : History) (n : ℕ) → Fit base used h (semantics.opening n)
  pub fits_on : (base used more : ℕ) (g h : History) (p : P) → Begins g h → used ≤ more → used ≤ longest_input → Fit base used g p → Fit base more h p
  pub lines :
      (h : History) (i : Image) → all_allowed h ≡ true → IsImage h i → (used : ℕ) (p : P) (g k : History) → Twins h i g k
      → (text : List ℕ) (skip : ℕ) → used + length text ≤ longest_input → length text ≤ 65536 → skip ≤ length text
      → Fit i.pos used k p
      → Alongside (SameEnd (Fit i.pos (used + length text))) g k (semantics.does p text skip) (semantics.does p text skip)

module _ {P : Type 0} (semantics : Semantics P) (Fit : ℕ → ℕ → History → P → Type 0) (go : LinesGoOn semantics Fit) where
  -- the states of two scripts: their histories are twins, and they have the same sessions, which fit the second history
  record SameState (h : History) (i : Image) (used : ℕ) (s z : ScriptState P) : Type 0 where
    twins : Twins h i s.history z.history
    sessions : s.sessions ≡ z.sessions
    fit : AllFit (Fit i.pos used z.history) z.sessions

  -- a line had the same result in both, and this many bytes may be queued then
  record SameLine (h : History) (i : Image) (used : ℕ) (s z : ScriptState P) (a b : LineResult P) : Type 0 where
    events : List Event
    first : a.script_state.history ≡ s.history ▸▸ events
    second : b.script_state.history ≡ z.history ▸▸ events
    after : SameState h i used a.script_state b.script_state
    text : a.text ≡ b.text
    fault : a.fault ≡ b.fault

  all_on : (base used more : ℕ) (g h : History) (sessions : List (List ℕ × P)) → Begins g h → used ≤ more → used ≤ longest_input → AllFit (Fit base used g) sessions → AllFit (Fit base more h) sessions
  all_on base used more g h sessions on le few f = sessions_on (Fit base used g) (Fit base more h) (λ p. go.fits_on base used more g h p on le few) sessions f

  state_on : (h : History) (i : Image) (used more : ℕ) (s z : ScriptState P) → used ≤ more → used ≤ longest_input → SameState h i used s z → SameState h i more s z
  state_on h i used more s z le few a = record { twins = a.twins; sessions = a.sessions; fit = all_on i.pos used more z.history z.history z.sessions same le few a.fit }

  -- a line without a session
  nothing : (h : History) (i : Image) (used more : ℕ) (s z : ScriptState P) (text : List ℕ) (fault : Bool) (reads : ℕ) → used ≤ more → used ≤ longest_input → SameState h i used s z → SameLine h i more s z (record { script_state = s; text = text; fault = fault; reads = reads }) (record { script_state = z; text = text; fault = fault; reads = reads })
  nothing h i used more s z text fault reads le few a = record { events = []; first = refl; second = refl; after = state_on h i used more s z le few a; text = refl; fault = refl }

  module _ (h : History) (i : Image) (ok : all_allowed h ≡ true) (is : IsImage h i) (used : ℕ) (s z : ScriptState P) (a : SameState h i used s z) where
    -- a turn of a session
    turn_same : (more : ℕ) (name : List ℕ) (d e : Procedure (Turn P)) → used ≤ more → used ≤ longest_input → Alongside (SameEnd (Fit i.pos more)) s.history z.history d e → SameLine h i more s z (takes_turn s name d) (takes_turn z name e)
    turn_same more name d e le few o =
        let allowed : all_allowed (history_after e z.history) ≡ true = ap all_allowed o.second ∙ o.allowed in
        let fit : Fit i.pos more (z.history ▸▸ o.events) (end_of_walk e z.history).places = o.ends_go.fit in
        let twins : Twins h i (history_after d s.history) (history_after e z.history) = subst (λ x. Twins h i x (history_after e z.history)) (sym o.first) (subst (Twins h i (s.history ▸▸ o.events)) (sym o.second) (twins_on h i s.history z.history o.events a.twins o.allowed)) in
        record {
          events = o.events;
          first = o.first;
          second = o.second;
          after = record {
            twins = twins;
            sessions = ap (λ x. with_places name x s.sessions) o.ends_go.places ∙ ap (with_places name (end_of_walk e z.history).places) a.sessions;
            fit = subst (λ x. AllFit (Fit i.pos more x) (with_places name (end_of_walk e z.history).places z.sessions)) (sym o.second) (sessions_with (Fit i.pos more (z.history ▸▸ o.events)) name (end_of_walk e z.history).places z.sessions fit (all_on i.pos used more z.history (z.history ▸▸ o.events) z.sessions (begins_followed z.history o.events) le few a.fit));
          };
          text = ap (text_of name) o.ends_go.said;
          fault = ap has_fault o.ends_go.said;
        }

    -- a statement of a session with this state
    step_same : (name text : List ℕ) (skip more : ℕ) (p : P) → used + length text ≤ more → more ≤ longest_input → length text ≤ 65536 → skip ≤ length text → Fit i.pos used z.history p → SameLine h i more s z (takes_turn s name (semantics.does p text skip)) (takes_turn z name (semantics.does p text skip))
    step_same name text skip more p le few short within fit =
        let room : used + length text ≤ longest_input = omega (arith, le, few) in
        let line = turn_same (used + length text) name (semantics.does p text skip) (semantics.does p text skip) (omega arith) (omega (arith, le, few)) (go.lines h i ok is used p s.history z.history a.twins text skip room short within fit) in
        record {
          events = line.events;
          first = line.first;
          second = line.second;
          after = state_on h i (used + length text) more _ _ le room line.after;
          text = line.text;
          fault = line.fault;
        }

    module _ (more : ℕ) (few : more ≤ longest_input) where
      session_same : (name text : List ℕ) (skip : ℕ) (o : Option P) → used + length text ≤ more → length text ≤ 65536 → skip ≤ length text → places_of name z.sessions ≡ o → SameLine h i more s z (executes_as semantics s name text skip o) (executes_as semantics z name text skip o)
      session_same name text skip (Some p) le short within e = step_same name text skip more p le few short within (places_there (Fit i.pos used z.history) name z.sessions p a.fit e)
      session_same name text skip None le short within e =
          subst (λ n. SameLine h i more s z (cond (nat_lt n most_sessions) (takes_turn s name (semantics.does (semantics.opening n) text skip)) (line_of_refusal s (reply_text name (said.Fault (bare too_many_sessions))))) (executes_as semantics z name text skip None)) (sym (ap length a.sessions))
          (elim (nat_lt (length z.sessions) most_sessions) as (λ c. SameLine h i more s z (cond c (takes_turn s name (semantics.does (semantics.opening (length z.sessions)) text skip)) (line_of_refusal s (reply_text name (said.Fault (bare too_many_sessions))))) (cond c (takes_turn z name (semantics.does (semantics.opening (length z.sessions)) text skip)) (line_of_refusal z (reply_text name (said.Fault (bare too_many_sessions)))))) [
            | true ↦ step_same name text skip more (semantics.opening (length z.sessions)) le few short within (go.opening i.pos used z.history (length z.sessions))
            | false ↦ nothing h i used more s z _ _ _ (omega (arith, le)) (omega (arith, le, few)) a
          ])

      kind_same : (n : ℕ) (line : List ℕ) (kind : LineKind) → used + length line ≤ more → length line ≤ 65536 → line_kind line ≡ kind → SameLine h i more s z (executes_kind semantics s n line kind) (executes_kind semantics z n line kind)
      kind_same n line Blank le short e = nothing h i used more s z _ _ _ (omega (arith, le)) (omega (arith, le, few)) a
      kind_same n line NotAscii le short e = nothing h i used more s z _ _ _ (omega (arith, le)) (omega (arith, le, few)) a
      kind_same n line NoSession le short e = nothing h i used more s z _ _ _ (omega (arith, le)) (omega (arith, le, few)) a
      kind_same n line (Stmt len skip end) le short e =
          let parts = statement_line line len skip end e in
          let size : length (take end line) ≡ end = let within : end ≤ length line = parts.within in omega (arith, length-take end line) in
          let within : skip ≤ length (take end line) = subst (λ x. skip ≤ x) (sym size) parts.statement in
          let room : used + length (take end line) ≤ more = omega (arith, size, parts.within, le) in
          let brief : length (take end line) ≤ 65536 = omega (arith, size, parts.within, short) in
          let name = session_name line len skip in
          subst (λ ss. SameLine h i more s z (executes_as semantics s name (take end line) skip (places_of name ss)) (executes_as semantics z name (take end line) skip (places_of name z.sessions))) (sym a.sessions)
          (session_same name (take end line) skip (places_of name z.sessions) room brief within refl)

      line_same : (n : ℕ) (line : List ℕ) → used + length line ≤ more → SameLine h i more s z (executes semantics s n line) (executes semantics z n line)
      line_same n line le =
          elim (nat_lt longest_line (length line)) as (λ c. nat_lt longest_line (length line) ≡ c → SameLine h i more s z (cond c (refused_line s n line_long) (executes_kind semantics s n line (line_kind line))) (cond c (refused_line z n line_long) (executes_kind semantics z n line (line_kind line)))) [
            | true ↦ λ _. nothing h i used more s z _ _ _ (omega (arith, le)) (omega (arith, le, few)) a
            | false ↦ λ e. kind_same n line (line_kind line) le (ltb-false longest_line (length line) e) refl
          ] refl

  -- ---- scripts

  -- lines had the same result in both
  record SameRun (h : History) (i : Image) (n : ℕ) (s z : ScriptState P) (lines : List (List ℕ)) : Type 0 where
    text : output semantics s n lines ≡ output semantics z n lines
    faults : is_refused semantics s n lines ≡ is_refused semantics z n lines
    sessions : (final_script_state semantics s n lines).sessions ≡ (final_script_state semantics z n lines).sessions
    events : List Event
    first : (final_script_state semantics s n lines).history ≡ s.history ▸▸ events
    second : (final_script_state semantics z n lines).history ≡ z.history ▸▸ events
    twins : Twins h i (s.history ▸▸ events) (z.history ▸▸ events)

  abbrev final_history : ScriptState P → ℕ → List ℕ → List (List ℕ) → History
  final_history q n line lines = (final_script_state semantics (executes semantics q n line).script_state (suc n) lines).history

  module _ (h : History) (i : Image) (ok : all_allowed h ≡ true) (is : IsImage h i) where
    lines_same : (used n : ℕ) (s z : ScriptState P) (lines : List (List ℕ)) → used + sum_by length lines ≤ longest_input → SameState h i used s z → SameRun h i n s z lines
    lines_same used n s z [] few a = record { text = refl; faults = refl; sessions = a.sessions; events = []; first = refl; second = refl; twins = a.twins }
    lines_same used n s z (line ∷ lines) few a =
        let total : sum_by length (line ∷ lines) ≡ length line + sum_by length lines = sum_by-cons length line lines in
        let room : used + length line ≤ longest_input = omega (arith, few, total) in
        let rest_room : (used + length line) + sum_by length lines ≤ longest_input = omega (arith, few, total) in
        let x = executes semantics s n line in
        let y = executes semantics z n line in
        let one : SameLine h i (used + length line) s z x y = line_same h i ok is used s z a (used + length line) room n line (omega arith) in
        let rest = lines_same (used + length line) (suc n) x.script_state y.script_state lines rest_room one.after in
        let first : final_history s n line lines ≡ s.history ▸▸ (one.events ++ rest.events) = rest.first ∙ ap (λ q. q ▸▸ rest.events) one.first ∙ sym (followed_append s.history one.events rest.events) in
        let second : final_history z n line lines ≡ z.history ▸▸ (one.events ++ rest.events) = rest.second ∙ ap (λ q. q ▸▸ rest.events) one.second ∙ sym (followed_append z.history one.events rest.events) in
        record {
          text = ap (λ q. q ++ output semantics x.script_state (suc n) lines) one.text ∙ ap (λ q. y.text ++ q) rest.text;
          faults = ap (λ q. q || is_refused semantics x.script_state (suc n) lines) one.fault ∙ ap (λ q. y.fault || q) rest.faults;
          sessions = rest.sessions;
          events = one.events ++ rest.events;
          first = first;
          second = second;
          twins = subst (λ q. Twins h i q (z.history ▸▸ (one.events ++ rest.events))) (sym rest.first ∙ first) (subst (Twins h i (x.script_state.history ▸▸ rest.events)) (sym rest.second ∙ second) rest.twins);
        }

  pub scripts_go_on : ScriptsGoOn semantics
  scripts_go_on h i es lines ok is after few =
      let twins : Twins h i (h ▸▸ es) (resumed i ▸▸ es) = record { events = es; whole = refl; short = refl; allowed = after } in
      let s : ScriptState P = record { history = h ▸▸ es; sessions = [] } in
      let z : ScriptState P = record { history = resumed i ▸▸ es; sessions = [] } in
      let room : 0 + sum_by length lines ≤ longest_input = omega (arith, few) in
      let run = lines_same h i ok is 0 1 s z lines room (record { twins = twins; sessions = refl; fit = tt }) in
      record {
        text = run.text;
        faults = run.faults;
        sessions = run.sessions;
        events = run.events;
        first = run.first;
        second = run.second;
        first_allowed = twins_allowed h i ok is _ _ run.twins;
        second_allowed = run.twins.allowed;
        alike = twins_alike h i ok is _ _ run.twins;
      }
