-- A line that has an outcome from a position on also has it from an earlier position on.
use Rattle.std.proofs.Common.{ℕ, ◌≤◌, false, List, [], ◌∷◌, Option, Some, None, refl, sym, true≢false, arith}
use Rattle.ts_model.specs.declared.events.Event.{Event}
use Rattle.ts_model.specs.History.{History, same}
use Rattle.ts_sessions.specs.Gives.{Gives}
use Rattle.ts_sessions.specs.Procedures.{Procedure, sees, adds, ends}
use Rattle.ts_sessions.specs.Steady.{IsEnded, Steady}

-- the same, with a last position that is no later
pub record GivenBefore {A : Type 0} (all : History) (at : ℕ) (so_far : List (ℕ × Event)) (procedure : Procedure A)
    (looks : List (Option ℕ)) (last : ℕ) (given : List (ℕ × Event)) (y : A) : Type 0 where
  pub end : ℕ
  pub before : end ≤ last
  pub gives : Gives all None at so_far procedure looks end given y

module _ {A : Type 0} (all : History) (at from : ℕ) (earlier : from ≤ at) (so_far : List (ℕ × Event)) where
  ended_before : (procedure : Procedure A) (looks : List (Option ℕ)) (last : ℕ) (given : List (ℕ × Event)) (y : A) → IsEnded procedure → Gives all None at so_far procedure looks last given y → GivenBefore all from so_far procedure looks last given y
  ended_before (sees shown f) looks last given y i g = absurd i
  ended_before (adds e next stopped) looks last given y i g = absurd i
  ended_before (ends a) [] last given y i g = record { end = from; before = omega (arith, earlier, g.0); gives = (refl, g.1, g.2) }
  ended_before (ends a) (p ∷ ps) last given y i g = absurd g

  -- a procedure that is steady at the end of the history appends no event before its first printed read
  pub given_before : (procedure : Procedure A) (looks : List (Option ℕ)) (last : ℕ) (given : List (ℕ × Event)) (y : A) → Steady false all procedure → Gives all None at so_far procedure looks last given y → GivenBefore all from so_far procedure looks last given y
  given_before (sees shown f) [] last given y s g = absurd g
  given_before (sees shown f) (None ∷ ps) last given y s g =
      let rest = ended_before (f all) ps last given y ((s all same).1 g.0).1 g.1 in
      record { end = rest.end; before = rest.before; gives = (g.0, rest.gives) }
  given_before (sees shown f) (Some p ∷ ps) last given y s g = record { end = last; before = omega arith; gives = (omega (arith, earlier, g.0), g.1, g.2, g.3) }
  given_before (adds e next stopped) ps last given y s g = absurd (true≢false (sym s.0))
  given_before (ends a) [] last given y s g = record { end = from; before = omega (arith, earlier, g.0); gives = (refl, g.1, g.2) }
  given_before (ends a) (p ∷ ps) last given y s g = absurd g
