-- The result of a procedure over a whole history.
use Rattle.std.specs.Prelude.{◌≡◌, ℕ, suc, ◌≤◌, ◌<◌, true, false, List, [], ◌∷◌, ◌++◌, ◌⊎◌, map, Option, Some, None, IfSome}
use Rattle.ts_model.specs.declared.events.Event.{Event}
use Rattle.ts_model.specs.History.{History, event_at, position, prefix}
use Rattle.ts_sessions.specs.Procedures.{Procedure, sees, adds, ends}

-- over a whole history, which stopped at `stop` if it did, a procedure ends with y. Its session had last read at `at`.
-- The list has its reads, each with its position if that is printed. Positions never fall, and each event is the one
-- directly after the last read, unless the store had stopped there. `last` is the last printed read or event. `given`
-- has the events of `so_far` and then those of the procedure, each with its number
abbrev pub Gives :
    {A : Type 0} → History → Option ℕ → ℕ → List (ℕ × Event) → Procedure A → List (Option ℕ) → ℕ → List (ℕ × Event)
    → A → Type 0
Gives all stop at so_far (sees shown f) [] last given y = ⊥
Gives all stop at so_far (sees shown f) (None ∷ ps) last given y =
    (shown all ≡ false) × Gives all stop at so_far (f all) ps last given y
Gives all stop at so_far (sees shown f) (Some p ∷ ps) last given y =
    (at ≤ p) × (p ≤ position all) × (shown (prefix all p) ≡ true)
    × Gives all stop p so_far (f (prefix all p)) ps last given y
Gives all stop at so_far (adds e next stopped) ps last given y =
    ((stop ≡ Some at) × Gives all stop at so_far stopped ps last given y)
    ⊎ ((event_at all (suc at) ≡ Some e) × Gives all stop (suc at) (so_far ++ (suc at, e) ∷ []) next ps last given y)
Gives all stop at so_far (ends a) [] last given y = (last ≡ at) × (given ≡ so_far) × (y ≡ a)
Gives all stop at so_far (ends a) (p ∷ ps) last given y = ⊥

-- ---- reads and events

-- the positions that are printed
abbrev pub printed_looks : List (Option ℕ) → List ℕ
printed_looks [] = []
printed_looks (None ∷ ps) = printed_looks ps
printed_looks (Some p ∷ ps) = p ∷ printed_looks ps

-- the last of some positions, or the one before if there are none
abbrev pub last_of : ℕ → List ℕ → ℕ
last_of at [] = at
last_of at (p ∷ ps) = last_of p ps

-- the numbers of events
abbrev pub numbers : List (ℕ × Event) → List ℕ
numbers es = map (λ e. e.0) es

-- the events of a history, each with its number, in order after one position and up to another
abbrev pub AreEvents : History → ℕ → List (ℕ × Event) → ℕ → Type 0
AreEvents all at [] last = at ≤ last
AreEvents all at (e ∷ es) last = (at < e.0) × (event_at all e.0 ≡ Some e.1) × AreEvents all e.0 es last

-- ---- stops

-- a store that had stopped, stopped at that position. Any other may have stopped since, at any position
abbrev pub StopsLater : Option ℕ → Option ℕ → Type 0
StopsLater None later = Unit {0}
StopsLater (Some p) later = later ≡ Some p

-- a store that stopped did so at the end of its history
abbrev pub StopsAtEnd : History → Option ℕ → Type 0
StopsAtEnd all stop = IfSome stop (λ p. p ≡ position all)
