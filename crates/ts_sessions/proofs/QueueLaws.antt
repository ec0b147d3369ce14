-- A queue on top of a history.
use Rattle.std.proofs.Common.{◌≡◌, ℕ, suc, ◌≤◌, ◌∙◌, ap, true, false, cond, List, [], ◌∷◌, length, Option, Some, None, sym, refl, subst, arith}
use Rattle.std.specs.Prelude.{◌&&◌, nat_lt, IsTrue}
use Rattle.std.proofs.lemmas.Bool.{and_from}
use Rattle.ts_model.specs.declared.events.Event.TheVariants.{Commit}
use Rattle.ts_model.specs.declared.events.Op.{Op}
use Rattle.ts_model.specs.declared.rosters.Roster.{Roster}
use Rattle.ts_model.specs.Allowed.{QueueFits, all_allowed, all_consistent}
use Rattle.ts_model.specs.Answers.{with_queue}
use Rattle.ts_model.specs.Bytes.{event_bytes}
use Rattle.ts_model.specs.History.{History}
use Rattle.ts_model.specs.Limits.{bytes_limit}
use Rattle.ts_model.specs.Roster.{roster, same_name}
use Rattle.ts_model.specs.Sound.{sound_in}
use Rattle.ts_model.specs.Timely.{timely_in}
use Rattle.ts_model.proofs.AllowedLaws.{consistent_of}
use Rattle.stmt_check.specs.Sound.{IsQueue}
use Rattle.stmt_check.proofs.QueueLaws.{queues_are_sound}
use Rattle.ts_sessions.specs.declared.blocks.Open.{Open}
use Rattle.ts_sessions.specs.declared.blocks.Open.TheVariants as opens
use Rattle.ts_model.specs.Numbers.{too_many_sessions}
use Rattle.result_text.specs.declared.replies.Said.TheVariants as said
use Rattle.result_text.specs.Replies.{reply_text}
use Rattle.ts_sessions.specs.Held.{HoldsBlock, block_of}
use Rattle.ts_sessions.specs.LineLaws.{OthersSeeNoQueue, QueriesShowTheQueue}
use Rattle.ts_sessions.specs.Places.{Places, no_places, queue_in}
use Rattle.ts_sessions.specs.Script.{LineResult, ScriptState, executes_as, places_of, line_of_refusal, session_semantics, takes_turn, text_of, with_places}
use Rattle.ts_model.specs.Limits.{most_sessions}
use Rattle.ts_sessions.specs.Step.{bare, step}
use Rattle.ts_sessions.specs.Walks.{end_of_walk}

-- a queue leaves the tables and aggregates as they are
pub queue_roster : (ops : List Op) (h : History) → roster (with_queue ops h) ≡ roster h
queue_roster [] h = refl
queue_roster (op ∷ ops) h = refl

-- an allowed history with a queue on top that can be committed is consistent
pub queue_consistent : (ops : List Op) (h : History) → all_allowed h ≡ true → QueueFits ops h → all_consistent (with_queue ops h) ≡ true
queue_consistent [] h ok fits = consistent_of h ok
queue_consistent (op ∷ ops) h ok fits = and_from _ _ (consistent_of h ok) fits

-- a queue that can be committed at one history of a snapshot can be committed at each
pub fits_each : (R : Roster) (ops : List Op) (g h : History) → R ≡ roster g → R ≡ roster h → QueueFits ops g → QueueFits ops h
fits_each R [] g h a b fits = tt
fits_each R (op ∷ ops) g h a b fits =
    let e = Commit (op ∷ ops) in
    subst (λ r. IsTrue ((sound_in r e && nat_lt (event_bytes e) bytes_limit) && timely_in r e)) (sym a ∙ b) fits

-- ---- blocks

pub queue_fits : (h : History) (bytes : ℕ) (ops : List Op) → bytes ≤ 67108864 → IsQueue h bytes ops → QueueFits ops h
queue_fits h bytes [] few q = tt
queue_fits h bytes (op ∷ ops) few q =
    let may = queues_are_sound.commits h bytes (op ∷ ops) q (omega arith) few in
    and_from _ _ may.is_sound may.is_timely

-- the queue of a block can be committed at a history that the block fits
pub block_fits : {T : Type 0} (stands : T → History → Type 0) (b : Open T) (h : History) → HoldsBlock stands b h → QueueFits (queue_in (block_of b)) h
block_fits stands opens.Nothing h k = tt
block_fits stands (opens.Write queue) h k = queue_fits h queue.bytes queue.ops k.1 k.0
block_fits stands (opens.Read at shot) h k = tt

-- ---- what a query shows

-- by computation, whether anything is queued or not
pub queries_show_the_queue : QueriesShowTheQueue
queries_show_the_queue p h [] bytes plan = record { answers = refl; reads = refl }
queries_show_the_queue p h (op ∷ ops) bytes plan = record { answers = refl; reads = refl }

-- ---- other sessions

-- the state of a session, beside another session with any state
other_places : {P : Type 0} (other name : List ℕ) (p q : P) (sessions : List (List ℕ × P)) → same_name other name ≡ false → places_of name (with_places other p sessions) ≡ places_of name (with_places other q sessions)
other_places other name p q [] e = rw e refl
other_places other name p q (entry ∷ sessions) e =
    elim (same_name entry.0 other) as (λ b. places_of name (cond b ((other, p) ∷ sessions) (entry ∷ with_places other p sessions)) ≡ places_of name (cond b ((other, q) ∷ sessions) (entry ∷ with_places other q sessions))) [
      | true ↦ rw e refl
      | false ↦ ap (λ o. cond (same_name entry.0 name) (Some entry.1) o) (other_places other name p q sessions e)
    ]

as_many : {P : Type 0} (other : List ℕ) (p q : P) (sessions : List (List ℕ × P)) → length (with_places other p sessions) ≡ length (with_places other q sessions)
as_many other p q [] = refl
as_many other p q (entry ∷ sessions) =
    elim (same_name entry.0 other) as (λ b. length (cond b ((other, p) ∷ sessions) (entry ∷ with_places other p sessions)) ≡ length (cond b ((other, q) ∷ sessions) (entry ∷ with_places other q sessions))) [
      | true ↦ refl
      | false ↦ ap suc (as_many other p q sessions)
    ]

-- the text written depends on the history, on the state of the session, and on the number of sessions
abbrev written_by : (h : History) (name text : List ℕ) (skip many : ℕ) → Option Places → List ℕ
written_by h name text skip many (Some p) = text_of name (end_of_walk (step p text skip) h).said
written_by h name text skip many None = cond (nat_lt many most_sessions) (text_of name (end_of_walk (step no_places text skip) h).said) (reply_text name (said.Fault (bare too_many_sessions)))

executes_by : (s : ScriptState Places) (name text : List ℕ) (skip : ℕ) (o : Option Places) → (executes_as session_semantics s name text skip o).text ≡ written_by s.history name text skip (length s.sessions) o
executes_by s name text skip (Some p) = refl
executes_by s name text skip None =
    let turn : LineResult Places = takes_turn s name (step no_places text skip) in
    let refusal : LineResult Places = line_of_refusal s (reply_text name (said.Fault (bare too_many_sessions))) in
    elim (nat_lt (length s.sessions) most_sessions) as (λ b. (cond b turn refusal).text ≡ cond b turn.text refusal.text) [ true ↦ refl | false ↦ refl ]

pub others_see_no_queue : OthersSeeNoQueue
others_see_no_queue s other name text skip p q e =
    let a = with_places other p s.sessions in
    let b = with_places other q s.sessions in
    executes_by (record s { sessions = a }) name text skip (places_of name a)
    ∙ ap (λ many. written_by s.history name text skip many (places_of name a)) (as_many other p q s.sessions)
    ∙ ap (written_by s.history name text skip (length b)) (other_places other name p q s.sessions e)
    ∙ sym (executes_by (record s { sessions = b }) name text skip (places_of name b))
