-- Positions, which number events: the event number p leads from position p - 1 to position p.
use Rattle.std.specs.Prelude.{ℕ, zero, suc, ◌+◌, ◌-◌, ◌==◌, List, [], ◌∷◌, length, count_by}

-- the n positions after p, in rising order
abbrev pub positions_after : ℕ → ℕ → List ℕ
positions_after p zero = []
positions_after p (suc n) = (p + 1) ∷ positions_after (p + 1) n

-- the positions after p, up to q
abbrev pub positions_between : ℕ → ℕ → List ℕ
positions_between p q = positions_after p (q - p)

-- how often p is among the positions
abbrev pub times : ℕ → List ℕ → ℕ
times p ps = count_by (λ q. q == p) ps

-- the position at which these events end, if their base ends at p
abbrev pub end_of : {E : Type 0} → ℕ → List E → ℕ
end_of p events = p + length events

-- the positions of the events by which the second list is longer than the first, if their base ends at p
abbrev pub positions_added : {E : Type 0} → ℕ → List E → List E → List ℕ
positions_added p old new = positions_between (end_of p old) (end_of p new)
