-- What is given of a procedure with a function of its result.
use Rattle.std.proofs.Common.{◌≡◌, ℕ, suc, List, [], ◌∷◌, ◌++◌, Option, Some, None, inl, inr, refl}
use Rattle.std.proofs.lemmas.Option.{none-some}
use Rattle.ts_model.specs.declared.events.Event.{Event}
use Rattle.ts_model.specs.History.{History, prefix}
use Rattle.ts_sessions.specs.Gives.{Gives}
use Rattle.ts_sessions.specs.Procedures.{Procedure, sees, adds, ends, ending_as}

-- the procedure itself gives it
pub record GivenAs {A B : Type 0} (g : A → B) (all : History) (at : ℕ) (so_far : List (ℕ × Event)) (procedure : Procedure A) (looks : List (Option ℕ)) (last : ℕ) (given : List (ℕ × Event)) (y : B) : Type 0 where
  pub end : A
  pub is : y ≡ g end
  pub gives : Gives all None at so_far procedure looks last given end

pub gives_as : {A B : Type 0} (g : A → B) (all : History) (at : ℕ) (so_far : List (ℕ × Event)) (procedure : Procedure A) (looks : List (Option ℕ)) (last : ℕ) (given : List (ℕ × Event)) (y : B) → Gives all None at so_far (ending_as g procedure) looks last given y → GivenAs g all at so_far procedure looks last given y
gives_as g all at so_far (sees shown f) [] last given y t = absurd t
gives_as g all at so_far (sees shown f) (None ∷ ps) last given y t =
    let rest = gives_as g all at so_far (f all) ps last given y t.1 in
    record { end = rest.end; is = rest.is; gives = (t.0, rest.gives) }
gives_as g all at so_far (sees shown f) (Some p ∷ ps) last given y t =
    let rest = gives_as g all p so_far (f (prefix all p)) ps last given y t.3 in
    record { end = rest.end; is = rest.is; gives = (t.0, t.1, t.2, rest.gives) }
gives_as g all at so_far (adds e next stopped) ps last given y (inl t) = absurd (none-some at t.0)
gives_as g all at so_far (adds e next stopped) ps last given y (inr t) =
    let rest = gives_as g all (suc at) (so_far ++ (suc at, e) ∷ []) next ps last given y t.1 in
    record { end = rest.end; is = rest.is; gives = inr (t.0, rest.gives) }
gives_as g all at so_far (ends a) [] last given y t = record { end = a; is = t.2; gives = (t.0, t.1, refl) }
gives_as g all at so_far (ends a) (p ∷ ps) last given y t = absurd t
