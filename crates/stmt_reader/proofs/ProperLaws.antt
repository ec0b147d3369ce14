-- The tokens of a text are proper, if none is refused.
use Rattle.std.proofs.Common.{◌≡◌, ℕ, zero, suc, ◌+◌, true, List, [], ◌∷◌, ap, subst, sym, ◌∙◌, length, refl}
use Rattle.stmt_tokens.specs.Tokens.{Token, Next, token, ended, nothing, word, number, quoted, mark, next}
use Rattle.stmt_tokens.specs.Scan.{seen_next}
use Rattle.stmt_tokens.specs.Streams.{Placed, Stream, ends, onto, plain, scan, stream}
use Rattle.stmt_reader.specs.Refusals.{is_fit}
use Rattle.stmt_tokens.proofs.Flow.{flow, scan_is_flow}
use Rattle.stmt_tokens.proofs.Named.{IsNamedNext, named_next}
use Rattle.stmt_reader.proofs.Placed.{AllFit}
use Rattle.stmt_reader.proofs.Holds.{IsProperToken, AreProper}

-- a token that is named is proper if its number is an i64
abbrev IsNamedHere : Next → Type 0
IsNamedHere a = IsNamedNext (seen_next a)

proper_token : (t : Token) (begin end : ℕ) → IsNamedHere (token t begin end) → is_fit t ≡ true → IsProperToken t
proper_token (word w) begin end h f = h.0
proper_token (number z) begin end h f = f
proper_token (quoted w) begin end h f = h.0
proper_token (mark m) begin end h f = tt

-- these tokens in front of a stream are proper, if their numbers are i64
abbrev IsProperStream : Stream → Type 0
IsProperStream s = (ts : List Placed) (p : ℕ) → s ≡ onto ts (ends p) → AllFit ts → AreProper (plain ts)

flow_proper : (skip : ℕ) (a : Next) (after : ℕ → Stream) → IsNamedHere a → ((end : ℕ) → IsProperStream (after end)) → IsProperStream (flow skip a after)
flow_proper skip (token t begin end) after named h [] p e fit = tt
flow_proper skip (token t begin end) after named h (u ∷ us) p e fit =
    let here : record { at = begin + 1; token = t } ≡ u = cc in
    let same : t ≡ u.token = ap (λ (x : Placed). x.token) here in
    let rest : after end ≡ onto us (ends p) = cc in
    (subst IsProperToken same (proper_token t begin end named (subst (λ x. is_fit x ≡ true) (sym same) fit.0)), h end us p rest fit.1)
flow_proper skip ended after named h [] p e fit = tt
flow_proper skip ended after named h (u ∷ us) p e fit = absurd cc
flow_proper skip (nothing begin) after named h [] p e fit = tt
flow_proper skip (nothing begin) after named h (u ∷ us) p e fit = absurd cc

scan_proper : (n : ℕ) (text : List ℕ) (skip : ℕ) → IsProperStream (scan n text skip)
scan_proper zero text skip [] p e fit = tt
scan_proper zero text skip (u ∷ us) p e fit = absurd cc
scan_proper (suc n) text skip ts p e fit =
    flow_proper skip (next text skip) (scan n text) (named_next text skip (seen_next (next text skip)) refl) (λ end. scan_proper n text end) ts p (sym (scan_is_flow n text skip) ∙ e) fit

pub stream_proper : (text : List ℕ) (skip : ℕ) (ts : List Placed) (p : ℕ) → stream text skip ≡ onto ts (ends p) → AllFit ts → AreProper (plain ts)
unfolding stream
stream_proper text skip ts p e fit = scan_proper (length text) text skip ts p e fit
