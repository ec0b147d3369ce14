-- How a session continues line by line.
use Rattle.std.proofs.Common.{◌≡◌, ℕ, ◌+◌, ◌<◌, ◌≤◌, ◌^◌, Bool, true, false, List, [], ◌∷◌, ◌++◌, get_or, length, map, take, drop, Some, arith, ap, subst, sym, ◌∙◌}
use Rattle.std.specs.Prelude.{Result, Ok, Err, OnErr, OnOk}
use Rattle.std.proofs.lemmas.List.{drop_more, length-drop, length-take-le, map-append, map_more, take-append-drop, take_all}
use Rattle.ts_schema.specs.declared.memory.NoMemory.{NoMemory}
use Rattle.ts_model.specs.States.{State}
use Rattle.ts_sessions.specs.declared.replies.Reply.{Reply}
use Rattle.ts_sessions.specs.declared.replies.StepEnd.{StepEnd}
use Rattle.ts_sessions.specs.declared.replies.StepEnd.TheVariants as steps
use Rattle.ts_sessions.specs.Actors.{HadBegun}
use Rattle.ts_sessions.specs.Places.{Block, Turn}
use Rattle.ts_sessions.specs.Procedures.{Procedure}
use Rattle.ts_sessions.specs.Script.{SessionLine}
use Rattle.ts_sessions.specs.Sessions.{IfAnswered, Stepped}
use Rattle.ts_sessions.specs.Walks.{Breaks}
use Rattle.ts_sessions.proofs.WalkLaws.{walks_break}
use Rattle.ts_schema.specs.Counts.{raised_by}
use Rattle.par_laws.specs.Broken.{BrokeOff}
use Rattle.par_laws.specs.Parallel.{SessionReplies, SessionExecuted, SessionExecutedTo}
use Rattle.par_laws.proofs.SessionSteps.{begun, executed_all, executed_more, with_exchange}
use Rattle.par_lines.specs.declared.sessions.LinePlace.{LinePlace}
use Rattle.par_lines.specs.Places.{line_at}
use Rattle.par_run.specs.declared.replies.Replies.{Replies}
use Rattle.par_run.specs.Replies.{reply_in, replies_said, ExecutesNext, Keeps, KeepsEnd}
use Rattle.par_run.specs.Workers.{nothing_said}

-- the reply of a step was kept
pub kept_end : (line : List ℕ) (end : StepEnd) (reply : Reply) (result : Result (Unit {0}) NoMemory) (old new : Replies) → Some reply ≡ reply_in end → OnOk result (Keeps line reply old new) → OnOk result (KeepsEnd line end old new)
kept_end line (steps.Reply r) reply result old new is kept = subst (λ x. OnOk result (Keeps line x old new)) (let same : reply ≡ r = cc in same) kept
kept_end line (steps.DiskFault r) reply result old new is kept = subst (λ x. OnOk result (Keeps line x old new)) (let same : reply ≡ r = cc in same) kept
kept_end line steps.NoMemory reply result old new is kept = absurd cc

-- so the step ended with a reply
pub answered_kept : (line : List ℕ) (end : StepEnd) (old new : Replies) (P : Type 0) → KeepsEnd line end old new → IfAnswered end P → P
answered_kept line (steps.Reply r) old new P kept holds = holds
answered_kept line (steps.DiskFault r) old new P kept holds = holds
answered_kept line steps.NoMemory old new P kept holds = absurd kept

-- the lines and replies with one more line and its reply
said_more : (line name own : List ℕ) (reply : Reply) (old new : Replies) (before after : ℕ) → own ≡ name → Keeps line reply old new → with_exchange line reply after (replies_said name old before) ≡ replies_said own new after
said_more line name own reply old new before after same kept = λ i. record {
  name = sym same i;
  exchanges = sym kept.exchanges i;
  fault = sym kept.fault i;
  reads = after;
}

-- no line is kept if no reply was
pub said_nothing : (name : List ℕ) (replies : Replies) (reads : ℕ) → replies.exchanges.items ≡ [] → replies.fault ≡ false → reads ≡ 0 → replies_said name replies reads ≡ nothing_said name
said_nothing name replies reads none no_fault zero = λ i. record { name = name; exchanges = none i; fault = no_fault i; reads = zero i }

-- ---- out of memory

-- what is always true is true of an error
pub on_error : {T E : Type 0} (P : Type 0) (result : Result T E) → P → OnErr result P
on_error P (Ok t) holds = tt
on_error P (Err e) holds = holds

-- a line broke off, or ended without its reply being kept
pub stepped_breaks : {P : Type 0} (alone : Bool) (old : State) (procedure : Procedure (Turn P)) (name : List ℕ) (end : StepEnd) (new : State) (q : P) (before after : ℕ) → Stepped alone old procedure name end new q before after → Breaks alone old procedure new
stepped_breaks alone old procedure name (steps.Reply r) new q before after s = walks_break alone false old procedure new _ s.walks
stepped_breaks alone old procedure name (steps.DiskFault r) new q before after s = walks_break alone true old procedure new _ s.walks
stepped_breaks alone old procedure name steps.NoMemory new q before after s = s.0

raised_up : (read before after : ℕ) → after ≡ raised_by read before → before < 2 ^ 64 → before ≤ after
raised_up read before after raised low = omega (arith, raised, low)

-- no count of rows falls
pub stepped_counts : {P : Type 0} (alone : Bool) (old : State) (procedure : Procedure (Turn P)) (name : List ℕ) (end : StepEnd) (new : State) (q : P) (before after : ℕ) → Stepped alone old procedure name end new q before after → before < 2 ^ 64 → before ≤ after
stepped_counts alone old procedure name (steps.Reply r) new q before after s low = raised_up s.read before after s.counted low
stepped_counts alone old procedure name (steps.DiskFault r) new q before after s low = raised_up s.read before after s.counted low
stepped_counts alone old procedure name steps.NoMemory new q before after s low = s.1

raised_low : (m n : ℕ) → n ≡ raised_by m 0 → n < 2 ^ 64
raised_low m n raised = omega (arith, raised)

-- a session with an empty queue can queue all operations to come
pub idle_room : (waits more most : ℕ) → waits ≡ 0 → more ≤ most → waits + more ≤ most
idle_room waits more most none le = omega (arith, none, le)

-- ---- lines by their places in an input

-- the text of the line at a place has as many bytes as the place says
pub length_at : (input text : List ℕ) (line : LinePlace) → text ≡ (line_at input line).text → line.from + line.len ≤ length input → length text ≡ line.len
length_at input text line same within = ap length same ∙ length-take-le line.len (drop line.from input) (omega (arith, length-drop line.from input))

-- what lines do by the state of their session, the block in a session state, and the state of each session at its first
-- line
module _ {P : Type 0} (within : P → Block) (does : P → List ℕ → ℕ → Procedure (Turn P)) (first : P) where
  -- a line whose reply was kept was executed
  pub next_executed : (alone : Bool) (name own : List ℕ) (line : SessionLine) (old : State) (p : P) (olds : Replies) (end : StepEnd) (new : State) (q : P) (news : Replies) (before after : ℕ)
      → own ≡ name → HadBegun within p old.history → Stepped alone old (does p line.text line.skip) name end new q before after → KeepsEnd line.text end olds news
      → ExecutesNext within does first alone name line old p (replies_said name olds before) new q (replies_said own news after)
  next_executed alone name own line old p olds (steps.Reply r) new q news before after same fits stepped kept =
      λ lines s so_far. subst (λ replies. SessionExecutedTo within does first alone (record { name = name; lines = lines ++ line ∷ [] }) s replies new q) (said_more line.text name own r olds news before after same kept)
      (executed_more within does first alone _ name lines s (replies_said name olds before) old p line r new q after so_far fits stepped)
  next_executed alone name own line old p olds (steps.DiskFault r) new q news before after same fits stepped kept =
      λ lines s so_far. subst (λ replies. SessionExecutedTo within does first alone (record { name = name; lines = lines ++ line ∷ [] }) s replies new q) (said_more line.text name own r olds news before after same kept)
      (executed_more within does first alone _ name lines s (replies_said name olds before) old p line r new q after so_far fits stepped)
  next_executed alone name own line old p olds steps.NoMemory new q news before after same fits stepped kept = absurd kept

  -- a session before its first line
  pub begun_fresh : (alone : Bool) (name : List ℕ) (s : State) (replies : SessionReplies) (p : P) → replies ≡ nothing_said name → p ≡ first → SessionExecutedTo within does first alone (record { name = name; lines = [] }) s replies s p
  begun_fresh alone name s replies p silent fresh =
      subst (λ q. SessionExecutedTo within does first alone (record { name = name; lines = [] }) s replies s q) (sym fresh)
      (subst (λ r. SessionExecutedTo within does first alone (record { name = name; lines = [] }) s r s first) (sym silent) (begun within does first alone name s))

  -- the line at an index is executed next
  pub executed_next : (alone : Bool) (name own : List ℕ) (input text : List ℕ) (lines : List LinePlace) (i : ℕ) (d : LinePlace) (s old : State) (p : P) (before : SessionReplies) (new : State) (q : P) (after : SessionReplies)
      → i < length lines → own ≡ name → text ≡ (line_at input (get_or lines i d)).text
      → SessionExecutedTo within does first alone (record { name = name; lines = map (line_at input) (take i lines) }) s before old p
      → ExecutesNext within does first alone own (record { text = text; skip = (get_or lines i d).skip }) old p before new q after
      → SessionExecutedTo within does first alone (record { name = name; lines = map (line_at input) (take (i + 1) lines) }) s after new q
  executed_next alone name own input text lines i d s old p before new q after lt same at so_far next =
      let line = get_or lines i d in
      let by_name = subst (λ n. ExecutesNext within does first alone n (record { text = text; skip = line.skip }) old p before new q after) same next in
      let by_text = subst (λ t. ExecutesNext within does first alone name (record { text = t; skip = line.skip }) old p before new q after) at by_name in
      subst (λ ls. SessionExecutedTo within does first alone (record { name = name; lines = ls }) s after new q) (sym (map_more (line_at input) lines i d lt))
      (by_text (map (line_at input) (take i lines)) s so_far)

  -- no line is left at the end
  pub executed_last : (alone : Bool) (name input : List ℕ) (lines : List LinePlace) (i : ℕ) (s : State) (replies : SessionReplies) (new : State) (q : P)
      → length lines ≤ i → SessionExecutedTo within does first alone (record { name = name; lines = map (line_at input) (take i lines) }) s replies new q
      → SessionExecuted within does first alone (record { name = name; lines = map (line_at input) lines }) s replies new
  executed_last alone name input lines i s replies new q le so_far =
      executed_all within does first alone name (map (line_at input) lines) s replies new q
      (subst (λ ls. SessionExecutedTo within does first alone (record { name = name; lines = map (line_at input) ls }) s replies new q) (take_all i lines le) so_far)

  -- the line at an index breaks off
  pub broke_next : (alone : Bool) (name input text : List ℕ) (lines : List LinePlace) (i : ℕ) (d : LinePlace) (s old : State) (p : P) (before : SessionReplies) (new : State) (after : ℕ)
      → i < length lines → text ≡ (line_at input (get_or lines i d)).text
      → SessionExecutedTo within does first alone (record { name = name; lines = map (line_at input) (take i lines) }) s before old p
      → Breaks alone old (does p text (get_or lines i d).skip) new → (before.reads < 2 ^ 64 → before.reads ≤ after)
      → BrokeOff within does first alone (record { name = name; lines = map (line_at input) lines }) s after new
  broke_next alone name input text lines i d s old p before new after lt at so_far broke counted =
      let place = get_or lines i d in
      record {
        done = map (line_at input) (take i lines);
        line = line_at input place;
        rest = map (line_at input) (drop (i + 1) lines);
        lines = ap (map (line_at input)) (sym (take-append-drop i lines) ∙ ap (λ rest. take i lines ++ rest) (drop_more lines i d lt))
            ∙ map-append (line_at input) (take i lines) (place ∷ drop (i + 1) lines);
        replies = before;
        mid = old;
        places = p;
        executed = so_far;
        broke = subst (λ t. Breaks alone old (does p t place.skip) new) at broke;
        reads = counted (raised_low _ before.reads so_far.replied.reads);
      }
