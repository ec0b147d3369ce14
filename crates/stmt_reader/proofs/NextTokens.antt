-- What a reader knows of the next token, and what that means for the tokens left.
use Rattle.std.proofs.Common.{◌≡◌, ℕ, ◌+◌, ◌≤◌, Bool, true, false, List, length, Option, Some, None, refl, sym, subst}
use Rattle.stmt_tokens.specs.Tokens.{Next, token, ended, nothing, next}
use Rattle.stmt_tokens.specs.Scan as scan
use Rattle.stmt_tokens.specs.Scan.{Seen, SeenNext, seen_next}
use Rattle.stmt_reader.specs.Cursor.{Cursor, ahead}
use Rattle.stmt_tokens.specs.Streams.{Stream, ends, stops, stream, seen_ahead, is_end, place, tail}
use Rattle.stmt_reader.specs.Reading.{fault_here}
use Rattle.stmt_reader.specs.declared.faults.Fault.TheVariants.{NoToken, Syntax}
use Rattle.stmt_tokens.proofs.Flow.{flow, stream_is_flow}

abbrev pub token_of : SeenNext → Option Seen
token_of (scan.token t begin end) = Some t
token_of scan.ended = None
token_of (scan.nothing begin) = None

abbrev pub place_of : ℕ → SeenNext → ℕ
place_of at (scan.token t begin end) = begin + 1
place_of at scan.ended = at + 1
place_of at (scan.nothing begin) = begin + 1

-- the fault if no allowed token comes next, by the place
abbrev pub Refuses : SeenNext → Stream → Type 0
Refuses (scan.token t begin end) s = Syntax (place s) ≡ fault_here s
Refuses scan.ended s = Syntax (place s) ≡ fault_here s
Refuses (scan.nothing begin) s = NoToken (place s) ≡ fault_here s

-- there is no token to move past
abbrev pub Stays : SeenNext → Stream → Type 0
Stays (scan.token t begin end) s = Unit {0}
Stays scan.ended s = s ≡ tail s
Stays (scan.nothing begin) s = s ≡ tail s

abbrev pub end_of : SeenNext → Bool
end_of (scan.token t begin end) = false
end_of scan.ended = true
end_of (scan.nothing begin) = false

abbrev pub tail_of : ℕ → (ℕ → Stream) → SeenNext → Stream
tail_of at after (scan.token t begin end) = after end
tail_of at after scan.ended = ends (at + 1)
tail_of at after (scan.nothing begin) = stops (begin + 1)

-- what a stream begins with, from what the code knows
pub record BeginsWith (at : ℕ) (a : SeenNext) (after : ℕ → Stream) (s : Stream) : Type 0 where
  pub seen : token_of a ≡ seen_ahead s
  pub place : place_of at a ≡ place s
  pub refuses : Refuses a s
  pub stays : Stays a s
  pub end : end_of a ≡ is_end s
  pub tail : tail_of at after a ≡ tail s

begins_with_flow : (at : ℕ) (n : Next) (after : ℕ → Stream) → BeginsWith at (seen_next n) after (flow at n after)
begins_with_flow at (token t begin end) after = record { seen = refl; place = refl; refuses = refl; stays = tt; end = refl; tail = refl }
begins_with_flow at ended after = record { seen = refl; place = refl; refuses = refl; stays = refl; end = refl; tail = refl }
begins_with_flow at (nothing begin) after = record { seen = refl; place = refl; refuses = refl; stays = refl; end = refl; tail = refl }

pub begins_with : (c : Cursor) (text : List ℕ) (at : ℕ) (a : SeenNext) → record { text = text; at = at } ≡ c → at ≤ length text → a ≡ seen_next (next text at) → BeginsWith at a (stream text) (ahead c)
begins_with c text at a c-is le e =
    subst (λ (k : Cursor). BeginsWith at a (stream text) (ahead k)) c-is
    (subst (λ (s : Stream). BeginsWith at a (stream text) s) (sym (stream_is_flow text at le))
    (subst (λ (b : SeenNext). BeginsWith at b (stream text) (flow at (next text at) (stream text))) (sym e) (begins_with_flow at (next text at) (stream text))))
