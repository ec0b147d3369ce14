-- The table follows the inserts of the commit.
use Rattle.std.proofs.Common.{◌≡◌, true, ◌∷◌, ◌++◌, [], sym, subst}
use Rattle.base_image.specs.Held.{is_timed}
use Rattle.ts_model.specs.declared.events.Event.{Event}
use Rattle.ts_model.specs.declared.events.Event.TheVariants.{Commit}
use Rattle.ts_model.specs.Saved.{appended_over}
use Rattle.engine_state.specs.Resumed.{IsHeld}
use Rattle.engine_state.proofs.ResumedTables.{held_next}
use Rattle.engine_state.proofs.image_tables.with_inserts.Goals as goal

pub returns-in_ok-apply-in-Commit-clause-held : goal.returns-in_ok-apply-in-Commit-clause-held
returns-in_ok-apply-in-Commit-clause-held c = λ rows held.
    let made = c.in_ok-apply-in-Commit.field-0.table in
    let timed : is_timed (Commit c.in-Commit.ops) ≡ true = subst (λ (e : Event). is_timed e ≡ true) c.in-Commit.is c.requires.inserts in
    subst (λ (e : Event). IsHeld (rows ++ appended_over c.args.table (e ∷ [])) c.in_ok-apply-in-Commit.field-0.table) (sym c.in-Commit.is)
    (held_next c.args.table c.in-Commit.ops rows c.args.held.now made timed held c.in_ok-apply-in-Commit.ensures.table)
