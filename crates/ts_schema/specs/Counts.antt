use Rattle.std.specs.Prelude.{◌≡◌, ℕ, ◌+◌, ◌-◌, ◌^◌, ◌≤◌, min, Result, MatchResult}

-- a count of 64 bits one higher, at most the type's greatest value
abbrev pub one_more : ℕ → ℕ
one_more n = min (n + 1) (2 ^ 64 - 1)

-- a count of 64 bits higher by m, at most the type's greatest value
abbrev pub raised_by : ℕ → ℕ → ℕ
raised_by m n = min (n + m) (2 ^ 64 - 1)

-- a count rose by at most m
abbrev pub RaisedUpTo : ℕ → ℕ → ℕ → Type 0
RaisedUpTo m old new = (old ≤ new) × (new ≤ raised_by m old)

-- how a call that checks m things raises a count: by m if it succeeds, and by at most m if it fails
abbrev pub Ticks : {T E : Type 0} → Result T E → ℕ → ℕ → ℕ → Type 0
Ticks result m old new = MatchResult result (λ _. new ≡ raised_by m old) (λ _. RaisedUpTo m old new)
