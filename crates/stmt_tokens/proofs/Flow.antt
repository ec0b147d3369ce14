-- The tokens of a text, in order.
use Rattle.std.proofs.Common.{◌≡◌, ℕ, zero, suc, ◌+◌, ◌<◌, ◌≤◌, List, [], length, drop, refl, sym, ap, ◌∙◌, arith}
use Rattle.std.proofs.lemmas.List.{length-drop, nil_from_length}
use Rattle.stmt_tokens.specs.Tokens.{Next, token, ended, nothing, next, next_here, blank_len}
use Rattle.stmt_tokens.specs.Streams.{Stream, ends, stops, ◌then◌, scan as scan_from, stream}
use Rattle.stmt_tokens.proofs.Lexemes.{NextFits, next_fits}

-- what comes next, and then what `after` returns after it
abbrev pub flow : ℕ → Next → (ℕ → Stream) → Stream
flow skip (token t begin end) after = (record { at = begin + 1; token = t }) then (after end)
flow skip ended after = ends (skip + 1)
flow skip (nothing begin) after = stops (begin + 1)

pub scan_is_flow : (n : ℕ) (text : List ℕ) (skip : ℕ) → scan_from (suc n) text skip ≡ flow skip (next text skip) (scan_from n text)
scan_is_flow n text skip = go (next text skip)
  where
    go : (a : Next) → elim a as (λ _. Stream) [ token t begin end ↦ (record { at = begin + 1; token = t }) then (scan_from n text end) | ended ↦ ends (skip + 1) | nothing begin ↦ stops (begin + 1) ] ≡ flow skip a (scan_from n text)
    go (token t begin end) = refl
    go ended = refl
    go (nothing begin) = refl

flow_alike : (skip most : ℕ) (a : Next) (f g : ℕ → Stream) → NextFits skip most a → ((end : ℕ) → skip < end → end ≤ most → f end ≡ g end) → flow skip a f ≡ flow skip a g
flow_alike skip most (token t begin end) f g fits same = ap (λ s. (record { at = begin + 1; token = t }) then s) (same end (omega arith) fits.2)
flow_alike skip most ended f g fits same = refl
flow_alike skip most (nothing begin) f g fits same = refl

past_end : (text : List ℕ) (skip : ℕ) → skip ≡ length text → next text skip ≡ ended
past_end text skip e =
    let none : drop (skip + blank_len (drop skip text)) text ≡ [] = nil_from_length (drop (skip + blank_len (drop skip text)) text) (omega (arith, length-drop (skip + blank_len (drop skip text)) text)) in
    ap (next_here (skip + blank_len (drop skip text))) none

-- enough is enough
scan_enough : (n m : ℕ) (text : List ℕ) (skip : ℕ) → skip ≤ length text → length text ≤ n + skip → length text ≤ m + skip → scan_from n text skip ≡ scan_from m text skip
scan_enough zero zero text skip le a b = refl
scan_enough zero (suc m) text skip le a b = sym (scan_is_flow m text skip ∙ rw (past_end text skip (omega arith)) refl)
scan_enough (suc n) zero text skip le a b = scan_is_flow n text skip ∙ rw (past_end text skip (omega arith)) refl
scan_enough (suc n) (suc m) text skip le a b =
    scan_is_flow n text skip
    ∙ flow_alike skip (length text) (next text skip) (scan_from n text) (scan_from m text) (next_fits text skip le) (λ end lt most. scan_enough n m text end most (omega arith) (omega arith))
    ∙ sym (scan_is_flow m text skip)

-- the tokens are the next one and those after it
pub stream_is_flow : (text : List ℕ) (skip : ℕ) → skip ≤ length text → stream text skip ≡ flow skip (next text skip) (stream text)
unfolding stream
stream_is_flow text skip le =
    scan_enough (length text) (suc (length text)) text skip le (omega arith) (omega arith) ∙ scan_is_flow (length text) text skip
