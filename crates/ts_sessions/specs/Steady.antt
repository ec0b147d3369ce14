-- Procedures that say the same over each longer history.
use Rattle.std.specs.Prelude.{◌≡◌, Bool, true, false}
use Rattle.ts_model.specs.History.{History, Begins}
use Rattle.ts_sessions.specs.Procedures.{Procedure, sees, adds, ends}

-- at each longer history too, the position isn't printed, and the procedure continues alike
abbrev pub SameLater : {A : Type 0} → (History → Bool) → (History → Procedure A) → History → Type 0
SameLater shown f h = (g : History) → Begins h g → (shown g ≡ false) × (f g ≡ f h)

-- the procedure has ended
abbrev pub IsEnded : {A : Type 0} → Procedure A → Type 0
IsEnded (sees shown f) = ⊥
IsEnded (adds e next stop) = ⊥
IsEnded (ends a) = Unit {0}

-- a procedure from a history on. A read that isn't printed is the same later and comes last. Each event comes directly
-- after a printed read, or after an event. fresh: the step before was a printed read or an event
abbrev pub Steady : {A : Type 0} → Bool → History → Procedure A → Type 0
Steady fresh base (sees shown f) =
    (h : History) → Begins base h
    → (shown h ≡ true → Steady true h (f h)) × (shown h ≡ false → SameLater shown f h × IsEnded (f h))
Steady fresh base (adds e next stop) = (fresh ≡ true) × Steady true base next × Steady fresh base stop
Steady fresh base (ends a) = Unit {0}
