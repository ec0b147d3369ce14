-- How a session executes its lines in order.
use Rattle.std.proofs.Common.{◌≡◌, ℕ, suc, ◌+◌, Bool, true, false, List, [], ◌∷◌, ◌++◌, length, sum_by, sym, refl, ap, ◌∙◌, arith}
use Rattle.std.specs.Prelude.{◌||◌}
use Rattle.std.proofs.lemmas.List.Sums.{sum_by_push}
use Rattle.std.specs.List.{list_any}
use Rattle.std.proofs.Math.Bool.{or-false}
use Rattle.ts_model.specs.History.{History}
use Rattle.ts_model.specs.States.{State}
use Rattle.ts_schema.specs.Counts.{raised_by}
use Rattle.ts_sessions.specs.declared.replies.Reply.{Reply}
use Rattle.ts_sessions.specs.Actors.{HadBegun}
use Rattle.ts_sessions.specs.Places.{Block, Turn}
use Rattle.ts_sessions.specs.Script.{SessionLine, has_fault}
use Rattle.ts_sessions.specs.Sessions.{Reports}
use Rattle.ts_sessions.specs.Procedures.{Procedure}
use Rattle.par_laws.specs.Parallel.{SessionReplies, SessionExecuted, SessionExecutedTo, exchange_of, exchanges_of, places_after}
use Rattle.transcript.specs.declared.transcripts.Exchange.{Exchange}
use Rattle.par_laws.specs.Walked.{Walked}
use Rattle.par_laws.proofs.WalkedLaws.{walked_more}

-- there are as many lines as turns
same_lengths : {P A : Type 0} (does : P → List ℕ → ℕ → Procedure A) (next : A → P) (Fits : P → History → Type 0) (alone : Bool) (s : State) (p : P) (lines : List SessionLine) (turns : List A) (new : State) (q : P) → Walked does next Fits alone s p lines turns new q → length lines ≡ length turns
same_lengths does next Fits alone s p [] [] new q w = refl
same_lengths does next Fits alone s p [] (y ∷ ys) new q w = absurd w
same_lengths does next Fits alone s p (line ∷ lines) [] new q w = absurd w
same_lengths does next Fits alone s p (line ∷ lines) (y ∷ ys) new q w = ap suc (same_lengths does next Fits alone w.mid (next y) lines ys new q w.rest)

exchanges_more : {P : Type 0} (name : List ℕ) (lines : List SessionLine) (turns : List (Turn P)) (line : SessionLine) (turn : Turn P) → length lines ≡ length turns → exchanges_of name (lines ++ line ∷ []) (turns ++ turn ∷ []) ≡ exchanges_of name lines turns ++ exchange_of name line turn ∷ []
exchanges_more name [] [] line turn same = refl
exchanges_more name [] (t ∷ turns) line turn same = absurd cc
exchanges_more name (l ∷ lines) [] line turn same = absurd cc
exchanges_more name (l ∷ lines) (t ∷ turns) line turn same = ap (λ es. exchange_of name l t ∷ es) (exchanges_more name lines turns line turn cc)

-- the rows read by one more turn
reads_more : {P : Type 0} (turns : List (Turn P)) (turn : Turn P) (before after : ℕ) → before ≡ raised_by (sum_by (λ t. t.reads) turns) 0 → after ≡ raised_by turn.reads before → after ≡ raised_by (sum_by (λ t. t.reads) (turns ++ turn ∷ [])) 0
reads_more turns turn before after so_far more =
    raised_twice (sum_by (λ t. t.reads) turns) turn.reads before after so_far more ∙ ap (λ n. raised_by n 0) (sym (sum_by_push (λ t. t.reads) turns turn))
  where
    raised_twice : (m k mid after : ℕ) → mid ≡ raised_by m 0 → after ≡ raised_by k mid → after ≡ raised_by (m + k) 0
    raised_twice m k mid after e f = omega arith

any_more : {P : Type 0} (turns : List (Turn P)) (turn : Turn P) → list_any (λ t. has_fault t.said) (turns ++ turn ∷ []) ≡ (list_any (λ t. has_fault t.said) turns || has_fault turn.said)
any_more [] turn = or-false (has_fault turn.said)
any_more (t ∷ turns) turn = first (has_fault t.said) (list_any (λ t. has_fault t.said) turns) (has_fault turn.said) (list_any (λ t. has_fault t.said) (turns ++ turn ∷ [])) (any_more turns turn)
  where
    first : (a b c d : Bool) → d ≡ (b || c) → (a || d) ≡ ((a || b) || c)
    first true b c d e = refl
    first false b c d e = e

-- a line and its reply
abbrev exchange : List ℕ → List ℕ → Exchange
exchange line reply = record { line = line; reply = reply }

-- a session's replies with one more line and its reply, when this many rows have been read
abbrev pub with_exchange : List ℕ → Reply → ℕ → SessionReplies → SessionReplies
with_exchange line reply reads replies = record {
  name = replies.name;
  exchanges = replies.exchanges ++ exchange line reply.text ∷ [];
  fault = replies.fault || reply.fault;
  reads = reads;
}

-- what lines do by the state of their session, the block in a session state, and the state of each session at its first
-- line
module _ {P : Type 0} (within : P → Block) (does : P → List ℕ → ℕ → Procedure (Turn P)) (first : P) where
  -- a session before its first line
  pub begun : (alone : Bool) (name : List ℕ) (s : State) → SessionExecutedTo within does first alone (record { name = name; lines = [] }) s (record { name = name; exchanges = []; fault = false; reads = 0 }) s first
  begun alone name s = record { turns = []; walked = (refl, refl); replied = record { name = refl; exchanges = refl; fault = refl; reads = refl } }

  -- a session executed one more line
  pub executed_more : (alone failed : Bool) (name : List ℕ) (lines : List SessionLine) (s : State) (replies : SessionReplies) (mid : State) (q : P) (line : SessionLine) (reply : Reply) (new : State) (places : P) (after : ℕ) → SessionExecutedTo within does first alone (record { name = name; lines = lines }) s replies mid q → HadBegun within q mid.history → Reports alone failed mid (does q line.text line.skip) name reply new places replies.reads after → SessionExecutedTo within does first alone (record { name = name; lines = lines ++ line ∷ [] }) s (with_exchange line.text reply after replies) new places
  executed_more alone failed name lines s replies mid q line reply new places after so_far fits reports =
      let turn : Turn P = record { places = places; said = reports.said; reads = reports.read } in
      let turns = so_far.turns in
      let same = same_lengths does places_after (HadBegun within) alone s first lines turns mid q so_far.walked in
      record {
        turns = turns ++ turn ∷ [];
        walked = walked_more does places_after (HadBegun within) alone s first lines turns mid q line turn new so_far.walked (record { fits = fits; failed = failed; walks = reports.walks });
        replied = record {
          name = so_far.replied.name;
          exchanges = ap (λ text. replies.exchanges ++ exchange line.text text ∷ []) reports.text
              ∙ ap (λ es. es ++ exchange_of name line turn ∷ []) so_far.replied.exchanges
              ∙ sym (exchanges_more name lines turns line turn same);
          fault = ap (λ x. replies.fault || x) reports.fault ∙ ap (λ x. x || has_fault reports.said) so_far.replied.fault ∙ sym (any_more turns turn);
          reads = reads_more turns turn replies.reads after so_far.replied.reads reports.counted;
        };
      }

  -- a session executed all its lines
  pub executed_all : (alone : Bool) (name : List ℕ) (lines : List SessionLine) (s : State) (replies : SessionReplies) (new : State) (places : P) → SessionExecutedTo within does first alone (record { name = name; lines = lines }) s replies new places → SessionExecuted within does first alone (record { name = name; lines = lines }) s replies new
  executed_all alone name lines s replies new places to = record { places = places; to = to }
