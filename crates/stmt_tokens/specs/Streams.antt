use Rattle.std.specs.Prelude.{ℕ, zero, suc, ◌+◌, Bool, true, false, List, [], ◌∷◌, length, map, Option, Some, None}
use Rattle.stmt_tokens.specs.Tokens.{Token, token, ended, nothing, next}
use Rattle.stmt_tokens.specs.Scan.{Seen, seen_token}

-- a token at its place, which counts from 1
pub record Placed : Type 0 where
  pub at : ℕ
  pub token : Token

infixr 20 ◌then◌
-- the tokens of a text from some point on. They end at the end of the statement, or stop at a place at which no token
-- begins.
pub data Stream : Type 0 where
  ends : ℕ → Stream
  stops : ℕ → Stream
  ◌then◌ : Placed → Stream → Stream

-- at most n tokens after the first `skip` bytes
abbrev pub scan : ℕ → List ℕ → ℕ → Stream
scan zero text skip = ends (skip + 1)
scan (suc n) text skip =
    elim (next text skip) [
      | token t begin end ↦ (record { at = begin + 1; token = t }) then (scan n text end)
      | ended ↦ ends (skip + 1)
      | nothing begin ↦ stops (begin + 1)
    ]

-- the tokens after the first `skip` bytes of a text
unfoldable pub stream : List ℕ → ℕ → Stream
stream text skip = scan (length text) text skip

-- these tokens and then a stream
abbrev pub onto : List Placed → Stream → Stream
onto [] s = s
onto (t ∷ ts) s = t then (onto ts s)

-- tokens without their places
abbrev pub plain : List Placed → List Token
plain ts = map (λ t. t.token) ts

-- the number of tokens
abbrev pub size : Stream → ℕ
size (ends p) = 0
size (stops p) = 0
size (t then s) = suc (size s)

-- the token that comes next
abbrev pub seen_ahead : Stream → Option Seen
seen_ahead (ends p) = None
seen_ahead (stops p) = None
seen_ahead (t then s) = Some (seen_token t.token)

-- there is a token, and it passes a test
abbrev pub passes : (Seen → Bool) → Option Seen → Bool
passes f None = false
passes f (Some t) = f t

-- whether a token comes next that passes a test
abbrev pub heads : (Seen → Bool) → Stream → Bool
heads f s = passes f (seen_ahead s)

-- whether the end of the statement comes next
abbrev pub is_end : Stream → Bool
is_end (ends p) = true
is_end (stops p) = false
is_end (t then s) = false

-- the place of what comes next
abbrev pub place : Stream → ℕ
place (ends p) = p
place (stops p) = p
place (t then s) = t.at

-- what comes after the next token
abbrev pub tail : Stream → Stream
tail (ends p) = ends p
tail (stops p) = stops p
tail (t then s) = s
