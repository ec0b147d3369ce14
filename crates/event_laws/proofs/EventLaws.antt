-- The events that the replies to the lines of a script name.
use Rattle.std.proofs.Common.{◌≡◌, ◌∙◌, ℕ, zero, suc, ◌+◌, ◌≤◌, ◌<◌, Bool, true, false, cond, nat_lt, List, [], ◌∷◌, ◌++◌, append-nil, append_assoc, length, take, Option, Some, None, IfSome, refl, sym, ap, subst, inl, inr, arith}
use Rattle.std.specs.Prelude.{is_some}
use Rattle.std.specs.List.{AllByRecursion}
use Rattle.std.proofs.lemmas.List.{length-append}
use Rattle.ts_model.specs.declared.events.Event.{Event}
use Rattle.ts_model.specs.Allowed.{all_allowed}
use Rattle.ts_model.specs.History.{History, ◌▸◌, Begins, same, further, base_position, position}
use Rattle.ts_model.specs.Limits.{most_sessions}
use Rattle.ts_model.specs.Numbers.{line_long, no_session, not_ascii, too_many_sessions}
use Rattle.ts_model.specs.Roster.{same_name}
use Rattle.ts_model.specs.States.{State, stop_of}
use Rattle.ts_model.proofs.HistoryLaws.{base_begins, base_below, begins_trans}
use Rattle.stmt_syntax.specs.Limits.{longest_line}
use Rattle.stmt_tokens.specs.Lines.{line_kind, session_name}
use Rattle.stmt_tokens.specs.declared.lines.LineKind.{LineKind}
use Rattle.stmt_tokens.specs.declared.lines.LineKind.TheVariants.{Blank, NotAscii, NoSession, Stmt as LineOf}
use Rattle.result_text.specs.declared.replies.Said.{Said}
use Rattle.result_text.specs.declared.replies.Said.TheVariants as said
use Rattle.result_text.specs.Replies.{reply_text}
use Rattle.ts_sessions.specs.Actors.{HadBegun, TellsReplies}
use Rattle.ts_sessions.specs.Gives.{StopsLater}
use Rattle.ts_sessions.specs.Made.{made_in}
use Rattle.ts_sessions.specs.Places.{Block, Turn}
use Rattle.ts_sessions.specs.Procedures.{Procedure, sees, adds, ends}
use Rattle.ts_sessions.specs.Script.{LineResult, ScriptState, Semantics, executes, executes_as, executes_kind, final_script_state, line_of_refusal, opening_script_state, places_of, refused_line, takes_turn, text_of, with_places}
use Rattle.ts_sessions.specs.Step.{bare}
use Rattle.ts_sessions.specs.Walks.{Walks, end_of_walk, history_after}
use Rattle.ts_sessions.proofs.BegunLaws.{begun_later}
use Rattle.event_laws.specs.Events.{RepliesAreWritten, ScriptsTellTheirEvents, TellsEvents, named_in, numbers_above, said_as, said_kind, said_to}
use Rattle.policy_jobs.proofs.AloneLaws.{store_of}

-- ---- numbers in order

numbers_joined : (p m n : ℕ) → numbers_above p m ++ numbers_above (p + m) n ≡ numbers_above p (m + n)
numbers_joined p zero n =
    let at : p + 0 ≡ p = omega arith in
    let many : n ≡ 0 + n = omega arith in
    ap (λ q. numbers_above q n) at ∙ ap (numbers_above p) many
numbers_joined p (suc m) n =
    let at : p + suc m ≡ suc p + m = omega arith in
    let many : suc (m + n) ≡ suc m + n = omega arith in
    ap (λ q. suc p ∷ (numbers_above (suc p) m ++ numbers_above q n)) at
    ∙ ap (λ l. suc p ∷ l) (numbers_joined (suc p) m n)
    ∙ ap (numbers_above p) many

told_none : (h : History) → TellsEvents h h []
told_none h = record { begins = same; many = omega arith; each = refl }

told_one : (h : History) (e : Event) → TellsEvents h (h ▸ e) (suc (position h) ∷ [])
told_one h e = record { begins = further same; many = omega arith; each = refl }

told_both : (g h k : History) (ms ns : List ℕ) → TellsEvents g h ms → TellsEvents h k ns → TellsEvents g k (ms ++ ns)
told_both g h k ms ns t u =
    let both = length-append ms ns in
    record {
      begins = begins_trans t.begins u.begins;
      many = omega (arith, t.many, u.many, both);
      each = (λ i. t.each i ++ u.each i)
          ∙ ap (λ p. numbers_above (position g) (length ms) ++ numbers_above p (length ns)) t.many
          ∙ numbers_joined (position g) (length ms) (length ns)
          ∙ ap (numbers_above (position g)) (sym both);
    }

-- ---- a procedure on a store that has no other user and hasn't stopped

record Went {A : Type 0} (d : Procedure A) (old : State) : Type 0 where
  new : State
  walks : Walks true false old d new (end_of_walk d old.history)
  history : new.history ≡ history_after d old.history
  going : new.failed ≡ None
  made : List ℕ
  made_is : new.made ≡ old.made ++ made
  told : TellsEvents old.history (history_after d old.history) made

went : {A : Type 0} (d : Procedure A) (old : State) → old.failed ≡ None → Went d old
went (sees shown d) old going =
    let r = went (d old.history) old going in
    record { new = r.new; walks = record { mid = old; first = inl refl; rest = r.walks }; history = r.history; going = r.going; made = r.made; made_is = r.made_is; told = r.told }
went (adds e next stop) old going =
    let mid : State = record { history = old.history ▸ e; failed = None; faults = old.faults; made = old.made ++ suc (position old.history) ∷ []; origin = old.origin } in
    let r = went next mid refl in
    record {
      new = r.new;
      walks = inr (inl (record { mid = mid; first = record { went_on = going; history = refl; failed = refl; faults = refl; made = refl; origin = refl }; rest = r.walks }));
      history = r.history;
      going = r.going;
      made = suc (position old.history) ∷ r.made;
      made_is = r.made_is ∙ append_assoc old.made (suc (position old.history) ∷ []) r.made;
      told = told_both old.history (old.history ▸ e) (history_after next (old.history ▸ e)) (suc (position old.history) ∷ []) r.made (told_one old.history e) r.told;
    }
went (ends a) old going =
    record { new = old; walks = (refl, refl, refl); history = refl; going = going; made = []; made_is = sym (append-nil old.made); told = told_none old.history }

no_stop : (s : State) → s.failed ≡ None → StopsLater (stop_of s) None
no_stop s none = subst (λ f. StopsLater (cond (is_some f) (Some (position s.history)) None) None) (sym none) tt

-- ---- sessions that had begun

module _ {P : Type 0} (within : P → Block) where
  abbrev AllBegun : History → List (List ℕ × P) → Type 0
  AllBegun h sessions = AllByRecursion (λ entry. HadBegun within entry.1 h) sessions

  all_later : (g h : History) (sessions : List (List ℕ × P)) → Begins g h → AllBegun g sessions → AllBegun h sessions
  all_later g h [] b a = tt
  all_later g h (entry ∷ sessions) b a = (begun_later (within entry.1) g h b a.0, all_later g h sessions b a.1)

  found_begun : (h : History) (name : List ℕ) (sessions : List (List ℕ × P)) → AllBegun h sessions → IfSome (places_of name sessions) (λ p. HadBegun within p h)
  found_begun h name [] a = tt
  found_begun h name (entry ∷ sessions) a =
      elim (same_name entry.0 name) as (λ b. IfSome (cond b (Some entry.1) (places_of name sessions)) (λ p. HadBegun within p h)) [
        | true ↦ a.0
        | false ↦ found_begun h name sessions a.1
      ]

  put_begun : (h : History) (name : List ℕ) (p : P) (sessions : List (List ℕ × P)) → HadBegun within p h → AllBegun h sessions → AllBegun h (with_places name p sessions)
  put_begun h name p [] begun a = (begun, tt)
  put_begun h name p (entry ∷ sessions) begun a =
      elim (same_name entry.0 name) as (λ b. AllBegun h (cond b ((name, p) ∷ sessions) (entry ∷ with_places name p sessions))) [
        | true ↦ (begun, a.1)
        | false ↦ (a.0, put_begun h name p sessions begun a.1)
      ]

-- ---- one line, on the way to a whole history

module _ {P : Type 0} (within : P → Block) (semantics : Semantics P) (reply : P → List ℕ → ℕ → Procedure (Turn P)) (tells : TellsReplies within semantics.does reply)
    (opens : (n : ℕ) (h : History) → HadBegun within (semantics.opening n) h) (all : History) (allowed : all_allowed all ≡ true) where
  -- the result of a line, on the way there
  record Told (s : ScriptState P) (r : LineResult P) (lines : List Said) : Type 0 where
    told : TellsEvents s.history r.script_state.history (made_in lines)
    begun : AllBegun within r.script_state.history r.script_state.sessions

  abbrev Tells : ScriptState P → LineResult P → List Said → Type 0
  Tells s r lines = Begins r.script_state.history all → Told s r lines

  module _ (s : ScriptState P) (sessions_begun : AllBegun within s.history s.sessions) where
    tells_turn : (name : List ℕ) (p : P) (text : List ℕ) (skip : ℕ) → HadBegun within p s.history
        → Tells s (takes_turn s name (semantics.does p text skip)) (end_of_walk (semantics.does p text skip) s.history).said
    tells_turn name p text skip begun later =
        let d = semantics.does p text skip in
        let old = store_of s.history in
        let w = went d old refl in
        let y = end_of_walk d s.history in
        let h = history_after d s.history in
        let whole : Begins s.history all = begins_trans w.told.begins later in
        let base : base_position all ≡ base_position s.history = base_begins whole in
        let g = tells.answered true false all None (position s.history) old p text skip w.new y begun (omega arith) allowed (subst (λ x. Begins x all) (sym w.history) later) (no_stop w.new w.going) w.walks in
        let named = tells.named all None (position s.history) p text skip g.looks g.last g.given y (omega (arith, base, base_below s.history)) g.gives in
        let made : w.made ≡ made_in y.said = sym w.made_is ∙ g.made ∙ named in
        let after : HadBegun within y.places h = subst (λ x. HadBegun within y.places x) w.history (tells.began true false old p text skip w.new y begun w.walks) in
        record {
          told = subst (λ ns. TellsEvents s.history h ns) made w.told;
          begun = put_begun within h name y.places s.sessions after (all_later within s.history h s.sessions w.told.begins sessions_begun);
        }

    tells_refusal : (text : List ℕ) (lines : List Said) → made_in lines ≡ [] → Tells s (line_of_refusal s text) lines
    tells_refusal text lines none later = record { told = subst (λ ns. TellsEvents s.history s.history ns) (sym none) (told_none s.history); begun = sessions_begun }

    tells_as : (name text : List ℕ) (skip : ℕ) (o : Option P) → IfSome o (λ p. HadBegun within p s.history) → Tells s (executes_as semantics s name text skip o) (said_as semantics s text skip o)
    tells_as name text skip (Some p) begun = tells_turn name p text skip begun
    tells_as name text skip None begun =
        let d = semantics.does (semantics.opening (length s.sessions)) text skip in
        elim (nat_lt (length s.sessions) most_sessions) as (λ b. Tells s (cond b (takes_turn s name d) (line_of_refusal s (reply_text name (said.Fault (bare too_many_sessions))))) (cond b (end_of_walk d s.history).said (said.Fault (bare too_many_sessions) ∷ []))) [
          | true ↦ tells_turn name (semantics.opening (length s.sessions)) text skip (opens (length s.sessions) s.history)
          | false ↦ tells_refusal (reply_text name (said.Fault (bare too_many_sessions))) (said.Fault (bare too_many_sessions) ∷ []) refl
        ]

    tells_kind : (n : ℕ) (line : List ℕ) (kind : LineKind) → Tells s (executes_kind semantics s n line kind) (said_kind semantics s line kind)
    tells_kind n line Blank later = record { told = told_none s.history; begun = sessions_begun }
    tells_kind n line NotAscii later = record { told = told_none s.history; begun = sessions_begun }
    tells_kind n line NoSession later = record { told = told_none s.history; begun = sessions_begun }
    tells_kind n line (LineOf len skip end) later = tells_as (session_name line len skip) (take end line) skip (places_of (session_name line len skip) s.sessions) (found_begun within s.history (session_name line len skip) s.sessions sessions_begun) later

    tells_line : (n : ℕ) (line : List ℕ) → Tells s (executes semantics s n line) (said_to semantics s line)
    tells_line n line =
        elim (nat_lt longest_line (length line)) as (λ b. Tells s (cond b (refused_line s n line_long) (executes_kind semantics s n line (line_kind line))) (cond b [] (said_kind semantics s line (line_kind line)))) [
          | true ↦ λ later. record { told = told_none s.history; begun = sessions_begun }
          | false ↦ tells_kind n line (line_kind line)
        ]

-- ---- each line continues the history of the script

module _ {P : Type 0} (semantics : Semantics P) where
  after_begins : {A : Type 0} (d : Procedure A) (h : History) → Begins h (history_after d h)
  after_begins (sees shown d) h = after_begins (d h) h
  after_begins (adds e next stop) h = begins_trans (further same) (after_begins next (h ▸ e))
  after_begins (ends a) h = same

  as_begins : (s : ScriptState P) (name text : List ℕ) (skip : ℕ) (o : Option P) → Begins s.history (executes_as semantics s name text skip o).script_state.history
  as_begins s name text skip (Some p) = after_begins (semantics.does p text skip) s.history
  as_begins s name text skip None =
      let d = semantics.does (semantics.opening (length s.sessions)) text skip in
      elim (nat_lt (length s.sessions) most_sessions) as (λ b. Begins s.history (cond b (takes_turn s name d) (line_of_refusal s (reply_text name (said.Fault (bare too_many_sessions))))).script_state.history) [
        | true ↦ after_begins d s.history
        | false ↦ same
      ]

  kind_begins : (s : ScriptState P) (n : ℕ) (line : List ℕ) (kind : LineKind) → Begins s.history (executes_kind semantics s n line kind).script_state.history
  kind_begins s n line Blank = same
  kind_begins s n line NotAscii = same
  kind_begins s n line NoSession = same
  kind_begins s n line (LineOf len skip end) = as_begins s (session_name line len skip) (take end line) skip (places_of (session_name line len skip) s.sessions)

  line_begins : (s : ScriptState P) (n : ℕ) (line : List ℕ) → Begins s.history (executes semantics s n line).script_state.history
  line_begins s n line =
      elim (nat_lt longest_line (length line)) as (λ b. Begins s.history (cond b (refused_line s n line_long) (executes_kind semantics s n line (line_kind line))).script_state.history) [
        | true ↦ same
        | false ↦ kind_begins s n line (line_kind line)
      ]

  script_begins : (s : ScriptState P) (n : ℕ) (lines : List (List ℕ)) → Begins s.history (final_script_state semantics s n lines).history
  script_begins s n [] = same
  script_begins s n (line ∷ lines) = begins_trans (line_begins s n line) (script_begins (executes semantics s n line).script_state (suc n) lines)

  -- the text written for a line of a session
  as_written : (s : ScriptState P) (name text : List ℕ) (skip : ℕ) (o : Option P) → (executes_as semantics s name text skip o).text ≡ text_of name (said_as semantics s text skip o)
  as_written s name text skip (Some p) = refl
  as_written s name text skip None =
      let d = semantics.does (semantics.opening (length s.sessions)) text skip in
      let refused = reply_text name (said.Fault (bare too_many_sessions)) in
      elim (nat_lt (length s.sessions) most_sessions) as (λ b. (cond b (takes_turn s name d) (line_of_refusal s refused)).text ≡ text_of name (cond b (end_of_walk d s.history).said (said.Fault (bare too_many_sessions) ∷ []))) [
        | true ↦ refl
        | false ↦ sym (append-nil refused)
      ]

  pub replies_are_written : RepliesAreWritten semantics
  replies_are_written s n line len skip end short kind =
      let name = session_name line len skip in
      let result : executes semantics s n line ≡ executes_kind semantics s n line (LineOf len skip end) =
      ap (λ b. cond b (refused_line s n line_long) (executes_kind semantics s n line (line_kind line))) short ∙ ap (executes_kind semantics s n line) kind in
      let lines : said_to semantics s line ≡ said_kind semantics s line (LineOf len skip end) =
      ap (λ b. cond b [] (said_kind semantics s line (line_kind line))) short ∙ ap (said_kind semantics s line) kind in
      ap (λ (r : LineResult P). r.text) result ∙ as_written s name (take end line) skip (places_of name s.sessions) ∙ ap (text_of name) (sym lines)

module _ {P : Type 0} (within : P → Block) (semantics : Semantics P) (reply : P → List ℕ → ℕ → Procedure (Turn P)) (tells : TellsReplies within semantics.does reply) (opens : (n : ℕ) (h : History) → HadBegun within (semantics.opening n) h) where
  script_told : (all : History) → all_allowed all ≡ true → (s : ScriptState P) (n : ℕ) (lines : List (List ℕ)) → AllBegun within s.history s.sessions → Begins (final_script_state semantics s n lines).history all
      → TellsEvents s.history (final_script_state semantics s n lines).history (named_in semantics s n lines)
  script_told all allowed s n [] begun later = told_none s.history
  script_told all allowed s n (line ∷ lines) begun later =
      let next = (executes semantics s n line).script_state in
      let one = tells_line within semantics reply tells opens all allowed s begun n line (begins_trans (script_begins semantics next (suc n) lines) later) in
      told_both s.history next.history (final_script_state semantics next (suc n) lines).history (made_in (said_to semantics s line)) (named_in semantics next (suc n) lines) one.told
      (script_told all allowed next (suc n) lines one.begun later)

  pub scripts_tell_their_events : ScriptsTellTheirEvents semantics
  scripts_tell_their_events h lines allowed =
      let s : ScriptState P = opening_script_state h in
      script_told (final_script_state semantics s 1 lines).history allowed s 1 lines tt same
