-- An event in its frame.
use Rattle.std.proofs.Common.{◌≡◌, ℕ, ◌<◌, ◌≤◌, ◌-◌, ◌^◌, min, List, ◌++◌, length, drop, refl, sym, ◌∙◌, ap, arith}
use Rattle.std.specs.Int.{w32, to_le_bytes}
use Rattle.std.proofs.lemmas.List.{drop_at}
use Rattle.std.proofs.Math.Nat.{min-eq_left}
use Rattle.ts_model.specs.declared.events.Event.{Event}
use Rattle.ts_model.specs.Bytes.{event_bytes}
use Rattle.event_codec.specs.Spelling as spelling
use Rattle.event_codec.proofs.BytesCounted.{bytes_counted}
use Rattle.txn_journal.specs.Frames.{Fits, body}

-- a count capped at the greatest number of its type is exact if it is small
pub small_count : (n told : ℕ) → told ≡ min n (2 ^ 64 - 1) → n < 2 ^ 32 → told ≡ n
small_count n told is few = is ∙ min-eq_left (let le : n ≤ 2 ^ 64 - 1 = omega arith in le)

-- a length and the bytes of an event make its frame
pub framed : (e : Event) (bytes : List ℕ) → bytes ≡ to_le_bytes w32 (event_bytes e) ++ spelling.event e → (bytes ≡ body (drop 4 bytes)) × (drop 4 bytes ≡ spelling.event e)
framed e bytes is =
    let behind : drop 4 bytes ≡ spelling.event e = ap (drop 4) is ∙ drop_at (to_le_bytes w32 (event_bytes e)) (spelling.event e) 4 refl in
    let whole : body (drop 4 bytes) ≡ to_le_bytes w32 (event_bytes e) ++ spelling.event e =
    ap body behind ∙ ap (λ (n : ℕ). to_le_bytes w32 n ++ spelling.event e) (bytes_counted e) in
    (is ∙ sym whole, behind)

pub fits_framed : (e : Event) (bytes : List ℕ) → drop 4 bytes ≡ spelling.event e → event_bytes e < 2 ^ 32 → Fits (drop 4 bytes)
fits_framed e bytes is few = omega (arith, ap length is, bytes_counted e, few)
