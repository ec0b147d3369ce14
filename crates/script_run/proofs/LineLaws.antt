-- The outcome of lines of a script on a store that nobody else uses and that hasn't stopped.
use Rattle.std.proofs.Common.{◌≡◌, ℕ, ◌<◌, ◌≤◌, Bool, true, false, List, cond, nat_lt, length, take, Option, Some, None, Result, Ok, Err, IsTrue, refl, sym, ap, ◌∙◌, ◌^◌, subst, true≢false, lt-ltb, le-ltb, inl, inr, arith}
use Rattle.std.specs.Prelude.{◌⊎◌}
use Rattle.ts_schema.specs.Counts.{raised_by}
use Rattle.ts_schema.specs.declared.memory.NoMemory.{NoMemory as NoMemoryLeft}
use Rattle.std.specs.Global.{Vec}
use Rattle.ts_model.specs.declared.backends.Backend.{Ghosts as Backend}
use Rattle.ts_model.specs.History.{History, Begins, same}
use Rattle.ts_model.specs.States.{State, stands_still}
use Rattle.stmt_tokens.specs.declared.lines.LineKind.{LineKind}
use Rattle.stmt_tokens.specs.declared.lines.LineKind.TheVariants.{Blank, NotAscii, NoSession, Stmt}
use Rattle.stmt_tokens.specs.Lines.{line_kind, session_name}
use Rattle.ts_model.specs.Numbers.{line_long, too_many_sessions}
use Rattle.result_text.specs.declared.replies.Said.TheVariants as said
use Rattle.result_text.specs.Replies.{reply_text}
use Rattle.ts_sessions.specs.declared.actors.Actor.{Ghosts as Actor}
use Rattle.ts_sessions.specs.declared.replies.Reply.{Reply as ReplyMade}
use Rattle.ts_sessions.specs.declared.replies.StepEnd.{StepEnd}
use Rattle.ts_sessions.specs.declared.replies.StepEnd.TheVariants.{Reply, DiskFault, NoMemory}
use Rattle.ts_sessions.specs.Procedures.{Procedure}
use Rattle.ts_sessions.specs.Held.{GoesOn}
use Rattle.ts_sessions.specs.Places.{Turn}
use Rattle.ts_sessions.specs.Step.{bare}
use Rattle.ts_sessions.specs.Script.{Semantics, LineResult, ScriptState, text_of, has_fault, takes_turn, with_places, places_of, executes, executes_kind, executes_as, line_of_refusal, refused_line}
use Rattle.ts_model.specs.Limits.{most_sessions}
use Rattle.stmt_syntax.specs.Limits.{longest_line}
use Rattle.ts_sessions.specs.Sessions.{IfAnswered, Stepped}
use Rattle.ts_sessions.proofs.WalkLaws.{goes_walks, goes_breaks}
use Rattle.script_run.specs.Executing.{AreReady, HaveTaken}
use Rattle.script_run.specs.Sessions.{AreSessions, script_over}
use Rattle.script_run.specs.LineEnds.{RepliesWith, Replies, LineExecuted, LineAnswered, LineBroken, LineFailed, ends_with}
use Rattle.script_run.proofs.Counting.{raised_some}
use Rattle.script_run.proofs.WalkedAlone.{WalkedBroken, WalkedFailed, begins_after, breaks_alone, walks_failed, walks_whole, went_same}
use Rattle.ts_sessions.proofs.NameCheckWalks.{unraised}

-- ---- the turn of a session

module _ {P : Type 0} (old : State) (going : stands_still old ≡ false) (sessions after : List (List ℕ × P)) (procedure : Procedure (Turn P)) (own name : List ℕ) (named : own ≡ name) (new : State) (places : P) (before count : ℕ) (small : before < 2 ^ 64) (put : after ≡ with_places name places sessions) where
  abbrev here : LineResult P
  here = takes_turn (record { history = old.history; sessions = sessions }) name procedure

  broken_off : before ≤ count → WalkedBroken procedure old new ⊎ WalkedFailed procedure old new → LineBroken here old new before count ⊎ LineFailed here old new before count
  broken_off more (inl b) = inl (record { between = b.between; went = b.went; counted = more })
  broken_off more (inr f) = inr (record { failed = f.failed; went = f.went; counted = more })

  -- a line of a session after its turn
  turn_alone : (end : StepEnd) → Stepped true old procedure own end new places before count → LineExecuted end here old new (record { history = new.history; sessions = after }) before count
  turn_alone (Reply r) s =
      let whole = walks_whole old procedure new (record { places = places; said = s.said; reads = s.read }) going s.walks in
      let put_so = put ∙ ap (λ turn. with_places name turn.places sessions) whole.end in
      record {
        replied = record {
          text_is = s.text ∙ ap (λ n. text_of n s.said) named ∙ ap (λ turn. text_of name turn.said) whole.end;
          fault_is = s.fault ∙ ap (λ turn. has_fault turn.said) whole.end;
        };
        reached = (λ i. record { history = whole.history i; sessions = put_so i });
        went = whole.went;
        counted = s.counted ∙ ap (λ turn. raised_by turn.reads before) whole.end;
      }
  turn_alone (DiskFault r) s =
      let failed = walks_failed old procedure new (record { places = places; said = s.said; reads = s.read }) going s.walks in
      record { failed = failed.failed; went = failed.went; counted = raised_some s.read before count small s.counted }
  turn_alone NoMemory s = broken_off s.1 (breaks_alone old procedure new going s.0)

pub turn_executed : {P : Type 0} (alone : Bool) → IsTrue alone → (old : State) → stands_still old ≡ false → (sessions after : List (List ℕ × P)) (procedure : Procedure (Turn P)) (own name : List ℕ) → own ≡ name → (end : StepEnd) (new : State) (places : P) (before count : ℕ) → before < 2 ^ 64 → Stepped alone old procedure own end new places before count → after ≡ with_places name places sessions
    → LineExecuted end (takes_turn (record { history = old.history; sessions = sessions }) name procedure) old new (record { history = new.history; sessions = after }) before count
turn_executed false a old going sessions after procedure own name named end new places before count small s put = absurd (true≢false (sym a))
turn_executed true a old going sessions after procedure own name named end new places before count small s put = turn_alone old going sessions after procedure own name named new places before count small put end s

-- the first line of a new session
pub first_executed : {P : Type 0} (semantics : Semantics P) (text : List ℕ) (skip number : ℕ) (first : P) (alone : Bool) → IsTrue alone → (old : State) → stands_still old ≡ false → (sessions after : List (List ℕ × P)) (own name : List ℕ) → own ≡ name → (end : StepEnd) (new : State) (places : P) (before count : ℕ) → before < 2 ^ 64
    → first ≡ semantics.opening number → number ≡ length sessions → Stepped alone old (semantics.does first text skip) own end new places before count → after ≡ with_places name places sessions
    → LineExecuted end (takes_turn (record { history = old.history; sessions = sessions }) name (semantics.does (semantics.opening (length sessions)) text skip)) old new (record { history = new.history; sessions = after }) before count
first_executed semantics text skip number first alone a old going sessions after own name named end new places before count small opening numbered s put =
    turn_executed alone a old going sessions after (semantics.does (semantics.opening (length sessions)) text skip) own name named end new places before count small
    (subst (λ p. Stepped alone old (semantics.does p text skip) own end new places before count) (opening ∙ ap semantics.opening numbered) s) put

-- how a line continues its store
pub stepped_goes : {P : Type 0} (alone : Bool) (old : State) (procedure : Procedure (Turn P)) (own : List ℕ) (end : StepEnd) (new : State) (places : P) (before count : ℕ) → Stepped alone old procedure own end new places before count → GoesOn old new
stepped_goes alone old procedure own (Reply r) new places before count s = goes_walks alone false old procedure new (record { places = places; said = s.said; reads = s.read }) s.walks
stepped_goes alone old procedure own (DiskFault r) new places before count s = goes_walks alone true old procedure new (record { places = places; said = s.said; reads = s.read }) s.walks
stepped_goes alone old procedure own NoMemory new places before count s = goes_breaks alone old procedure new s.0

-- what follows from a property of replies is true if the line has a reply
pub answered_so : (end : StepEnd) (Q R : Type 0) → (Q → R) → IfAnswered end Q → IfAnswered end R
answered_so (Reply r) Q R follows q = follows q
answered_so (DiskFault r) Q R follows q = follows q
answered_so NoMemory Q R follows q = tt

-- ---- lines that change nothing

-- a line whose reply doesn't need its store
pub same_answered : {P : Type 0} (line_result : LineResult P) (reply : ReplyMade) (s : State) (script_state : ScriptState P) (count : ℕ) → count < 2 ^ 64 → stands_still s ≡ false → RepliesWith line_result.text line_result.fault reply → line_result.script_state ≡ script_state → line_result.reads ≡ 0
    → LineAnswered line_result reply s s script_state count count
same_answered line_result reply s script_state count small going replied e none = record {
  replied = replied;
  reached = sym e;
  went = went_same s s going refl;
  counted = subst (λ n. count ≡ raised_by n count) (sym none) (unraised count small);
}

-- a line that ran out of memory before it did anything
pub not_executed : {P : Type 0} (line_result : LineResult P) (s : State) (count : ℕ) → stands_still s ≡ false → Begins s.history line_result.script_state.history → LineBroken line_result s s count count
not_executed line_result s count going longer = record { between = record { began = same; within = longer }; went = went_same s s going refl; counted = omega arith }

-- a refusal, unless memory ran out for its reply
pub refusal_executed : {P : Type 0} (result : Result ReplyMade NoMemoryLeft) (line_result : LineResult P) (s : State) (script_state : ScriptState P) (count : ℕ) → count < 2 ^ 64 → stands_still s ≡ false → Replies line_result.text line_result.fault result → line_result.script_state ≡ script_state → script_state.history ≡ s.history → line_result.reads ≡ 0
    → LineExecuted (ends_with result) line_result s s script_state count count
refusal_executed (Ok reply) line_result s script_state count small going replied e at none = same_answered line_result reply s script_state count small going replied e none
refusal_executed (Err left) line_result s script_state count small going replied e at none =
    inl (not_executed line_result s count going (subst (λ h. Begins s.history h) (sym (ap (λ t. t.history) e ∙ at)) same))

-- ---- which line it is

module _ {P : Type 0} (end : StepEnd) (old new : State) (script_state : ScriptState P) (before after : ℕ) where
  abbrev Comes : LineResult P → Type 0
  Comes line_result = LineExecuted end line_result old new script_state before after

  -- a line of a session that has appeared, and of one that hasn't
  pub as_found : (semantics : Semantics P) (s : ScriptState P) (name text : List ℕ) (skip : ℕ) (o : Option P) (p : P) → o ≡ Some p → Comes (takes_turn s name (semantics.does p text skip)) → Comes (executes_as semantics s name text skip o)
  as_found semantics s name text skip o p found l = subst (λ o. Comes (executes_as semantics s name text skip o)) (sym found) l

  pub as_missing : (semantics : Semantics P) (s : ScriptState P) (name text : List ℕ) (skip : ℕ) (o : Option P) → o ≡ None → Comes (executes_as semantics s name text skip None) → Comes (executes_as semantics s name text skip o)
  as_missing semantics s name text skip o missing l = subst (λ o. Comes (executes_as semantics s name text skip o)) (sym missing) l

  -- a new session if there are too many
  pub as_many : (semantics : Semantics P) (s : ScriptState P) (name text : List ℕ) (skip : ℕ) → most_sessions ≤ length s.sessions → Comes (line_of_refusal s (reply_text name (said.Fault (bare too_many_sessions)))) → Comes (executes_as semantics s name text skip None)
  as_many semantics s name text skip many l =
      let full : nat_lt (length s.sessions) most_sessions ≡ false = le-ltb (length s.sessions) most_sessions many in
      subst (λ b. Comes (cond b (takes_turn s name (semantics.does (semantics.opening (length s.sessions)) text skip)) (line_of_refusal s (reply_text name (said.Fault (bare too_many_sessions)))))) (sym full) l

  -- a new session otherwise
  pub as_few : (semantics : Semantics P) (s : ScriptState P) (name own text : List ℕ) (skip : ℕ) → own ≡ name → length s.sessions < most_sessions → Comes (takes_turn s own (semantics.does (semantics.opening (length s.sessions)) text skip)) → Comes (executes_as semantics s name text skip None)
  as_few semantics s name own text skip named few l =
      let room : nat_lt (length s.sessions) most_sessions ≡ true = lt-ltb (length s.sessions) most_sessions few in
      subst (λ b. Comes (cond b (takes_turn s name (semantics.does (semantics.opening (length s.sessions)) text skip)) (line_of_refusal s (reply_text name (said.Fault (bare too_many_sessions)))))) (sym room)
      (subst (λ n. Comes (takes_turn s n (semantics.does (semantics.opening (length s.sessions)) text skip))) named l)

  -- a line of a kind that has at most 65,536 bytes
  pub as_kind : (semantics : Semantics P) (s : ScriptState P) (n : ℕ) (line : List ℕ) (kind : LineKind) → length line ≤ longest_line → kind ≡ line_kind line → Comes (executes_kind semantics s n line kind) → Comes (executes semantics s n line)
  as_kind semantics s n line kind few e l =
      let short : nat_lt longest_line (length line) ≡ false = le-ltb longest_line (length line) few in
      let whole = subst (λ k. Comes (executes_kind semantics s n line k)) e l in
      subst (λ b. Comes (cond b (refused_line s n line_long) (executes_kind semantics s n line (line_kind line)))) (sym short) whole

-- a longer line
pub long_line : {P : Type 0} (semantics : Semantics P) (s : ScriptState P) (n : ℕ) (line : List ℕ) → longest_line < length line → executes semantics s n line ≡ refused_line s n line_long
long_line semantics s n line many =
    let long : nat_lt longest_line (length line) ≡ true = lt-ltb longest_line (length line) many in
    ap (λ b. cond b (refused_line s n line_long) (executes_kind semantics s n line (line_kind line))) long

-- ---- each line continues from its script state

pub turn_begins : {P : Type 0} (s : ScriptState P) (name : List ℕ) (procedure : Procedure (Turn P)) → Begins s.history (takes_turn s name procedure).script_state.history
turn_begins s name procedure = begins_after procedure s.history

either_begins : {P : Type 0} (b : Bool) (h : History) (x y : LineResult P) → Begins h x.script_state.history → Begins h y.script_state.history → Begins h (cond b x y).script_state.history
either_begins true h x y p q = p
either_begins false h x y p q = q

pub session_begins : {P : Type 0} (semantics : Semantics P) (s : ScriptState P) (name text : List ℕ) (skip : ℕ) (o : Option P) → Begins s.history (executes_as semantics s name text skip o).script_state.history
session_begins semantics s name text skip (Some p) = turn_begins s name (semantics.does p text skip)
session_begins semantics s name text skip None =
    either_begins (nat_lt (length s.sessions) most_sessions) s.history (takes_turn s name (semantics.does (semantics.opening (length s.sessions)) text skip)) (line_of_refusal s (reply_text name (said.Fault (bare too_many_sessions))))
    (turn_begins s name (semantics.does (semantics.opening (length s.sessions)) text skip)) same

kind_begins : {P : Type 0} (semantics : Semantics P) (s : ScriptState P) (n : ℕ) (line : List ℕ) (kind : LineKind) → Begins s.history (executes_kind semantics s n line kind).script_state.history
kind_begins semantics s n line Blank = same
kind_begins semantics s n line NotAscii = same
kind_begins semantics s n line NoSession = same
kind_begins semantics s n line (Stmt len skip end) = session_begins semantics s (session_name line len skip) (take end line) skip (places_of (session_name line len skip) s.sessions)

pub line_begins : {P : Type 0} (semantics : Semantics P) (s : ScriptState P) (n : ℕ) (line : List ℕ) → Begins s.history (executes semantics s n line).script_state.history
line_begins semantics s n line =
    either_begins (nat_lt longest_line (length line)) s.history (refused_line s n line_long) (executes_kind semantics s n line (line_kind line)) same (kind_begins semantics s n line (line_kind line))

-- ---- what a line leaves

-- whether the line has a reply or not
pub always_so : (end : StepEnd) (Q : Type 0) → Q → IfAnswered end Q
always_so (Reply r) Q q = q
always_so (DiskFault r) Q q = q
always_so NoMemory Q q = tt

-- sessions that can execute a line can execute a shorter one
pub ready_for : {A T J : Type 0} (actors : Actor A T J) (alone : Bool) (s : State) (entries : List (Vec ℕ × A)) (bytes few read : ℕ) → few ≤ bytes → AreReady actors alone s entries bytes read → AreReady actors alone s entries few read
ready_for actors alone s entries bytes few read le k = record {
  by_itself = k.by_itself;
  going = k.going;
  counts = k.counts;
  short = omega (arith, le, k.short);
  sessions = k.sessions;
  room = omega (arith, le, k.room);
}

module _ {A T J B U K : Type 0} (actors : Actor A T J) (backend : Backend B U K) (old : B) (entries : List (Vec ℕ × A)) (bytes : ℕ) (line_result : LineResult actors.Places) (end : StepEnd) where
  -- a line that left its store and its sessions as they were
  pub unchanged : (alone : Bool) (count : ℕ) → AreReady actors alone (backend.state old) entries bytes count → LineExecuted end line_result (backend.state old) (backend.state old) (script_over actors.places (backend.state old) entries) count count → HaveTaken actors backend old entries bytes line_result end old entries count count
  unchanged alone count ready l = record {
    executed = l;
    sessions = always_so end (AreSessions actors (backend.state old) entries) ready.sessions;
    waiting = omega arith;
    kin = refl;
  }

  -- a line that was executed like a shorter text
  pub taken_as : (few : ℕ) (other : LineResult actors.Places) (new : B) (entries_then : List (Vec ℕ × A)) (before after : ℕ) → few ≤ bytes → (LineExecuted end other (backend.state old) (backend.state new) (script_over actors.places (backend.state new) entries_then) before after → LineExecuted end line_result (backend.state old) (backend.state new) (script_over actors.places (backend.state new) entries_then) before after)
      → HaveTaken actors backend old entries few other end new entries_then before after → HaveTaken actors backend old entries bytes line_result end new entries_then before after
  taken_as few other new entries_then before after le as_well k = record {
    executed = as_well k.executed;
    sessions = k.sessions;
    waiting = omega (arith, le, k.waiting);
    kin = k.kin;
  }
