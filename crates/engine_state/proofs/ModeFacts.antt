-- A mode changes the roster only.
use Rattle.std.proofs.Common.{◌≡◌, ◌∙◌, ℕ, suc, Bool, Result, Ok, Err, IfOk, ap}
use Rattle.std.proofs.lemmas.Bool.{and_from}
use Rattle.ts_model.specs.declared.events.Event.{Event}
use Rattle.ts_model.specs.declared.events.Event.TheVariants.{Mode}
use Rattle.ts_model.specs.Roster.{roster_after}
use Rattle.engine_state.specs.Nexts.{StepsTo}
use Rattle.engine_state.specs.Stands.{StateValue}
use Rattle.engine_state.proofs.StateSteps.{state_of_mode}

pub mode_steps : {E : Type 0} (found : Result StateValue E) (s : StateValue) (e : Event) → IfOk found (λ new. new.position ≡ suc s.position) → IfOk found (λ new. new.roster ≡ roster_after s.roster e) → IfOk found (λ new. new.tables ≡ s.tables) → IfOk found (λ new. new.views ≡ s.views) → IfOk found (λ new. new.refreshes ≡ s.refreshes) → IfOk found (λ new. (v : ℕ) (only : Bool) → e ≡ Mode v only → StepsTo s (Mode v only) new)
mode_steps (Ok new) s e position relations tables views refreshes = λ v only is h st ok. state_of_mode h v only s new (and_from _ _ st.consistent ok) st position (relations ∙ ap (roster_after s.roster) is) tables views refreshes
mode_steps (Err x) s e position relations tables views refreshes = tt
