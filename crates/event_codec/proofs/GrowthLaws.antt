-- Buffers that grow, step by step.
use Rattle.std.proofs.Common.{◌≡◌, ℕ, List, [], ◌++◌, length, take, refl, sym, ap, ◌∙◌, append_assoc}
use Rattle.std.proofs.lemmas.List.{append-nil, take_at}
use Rattle.event_codec.specs.Growing.{Grows}

pub grows_by : (old more new : List ℕ) → new ≡ old ++ more → Grows old new
grows_by old more new e = record { more = more; is = e }

pub grows_not : (old new : List ℕ) → new ≡ old → Grows old new
grows_not old new e = record { more = []; is = e ∙ sym (append-nil old) }

pub grows_on : (a b c : List ℕ) → Grows a b → Grows b c → Grows a c
grows_on a b c p q = record { more = p.more ++ q.more; is = q.is ∙ ap (λ (l : List ℕ). l ++ q.more) p.is ∙ append_assoc a p.more q.more }

-- the earlier bytes are the front
pub front_kept : (old new : List ℕ) → Grows old new → take (length old) new ≡ old
front_kept old new g = ap (take (length old)) g.is ∙ take_at old g.more (length old) refl
