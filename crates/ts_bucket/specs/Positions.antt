-- Positions of a history, where there may be none: which is later, and which are above another.
use Rattle.std.specs.Prelude.{ℕ, max, Bool, true, false, cond, nat_lt, Option, Some, None}

-- the later of two positions; nothing is before every position
abbrev pub later : Option ℕ → Option ℕ → Option ℕ
later None q = q
later (Some p) None = Some p
later (Some p) (Some q) = Some (max p q)

-- there is a position, and it is above s
abbrev pub is_above : ℕ → Option ℕ → Bool
is_above s None = false
is_above s (Some p) = nat_lt s p

-- there is no position, or it is below s
abbrev pub is_before : ℕ → Option ℕ → Bool
is_before s None = true
is_before s (Some p) = nat_lt p s

-- the position, if it is above s
abbrev pub above : ℕ → Option ℕ → Option ℕ
above s p = cond (is_above s p) p None

-- a position, if it is above the last refresh, if there is one
abbrev pub above_last : Option ℕ → Option ℕ → Option ℕ
above_last None p = p
above_last (Some s) p = above s p
