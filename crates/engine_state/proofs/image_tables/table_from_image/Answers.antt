-- The rows are those of the image, and the log is empty.
use Rattle.std.proofs.Common.{◌≡◌, ◌∙◌, Some, ap, sym, subst, rules}
use Rattle.std.specs.Prelude.{FitsSigned, List, Option}
use Rattle.std.specs.Int.{w64}
use Rattle.std.specs.List.{list_all}
use Rattle.std.proofs.lemmas.Int.{to_z-of_z}
use Rattle.base_image.specs.Held.{is_timed}
use Rattle.ts_bucket.specs.Chunks.{IsInterval}
use Rattle.ts_model.specs.declared.events.Event.{Event}
use Rattle.ts_model.specs.declared.rosters.Roster.{Roster}
use Rattle.ts_model.specs.declared.tables.Hyper.{Hyper}
use Rattle.ts_model.specs.History.{resumed}
use Rattle.ts_model.specs.Roster.{table_of}
use Rattle.ts_model.specs.Saved.{appended_over}
use Rattle.engine_state.specs.Resumed.{IsHeld}
use Rattle.engine_state.specs.Tables.{TableIs}
use Rattle.engine_state.proofs.AnswerFacts.{interval_there}
use Rattle.engine_state.proofs.ResumedTables.{image_timed, table_resumed}
use Rattle.engine_state.proofs.image_tables.table_from_image.Goals as goal

pub held_rows-requires-clause-interval : goal.held_rows-requires-clause-interval
held_rows-requires-clause-interval c =
    let hyper = c.in-Some.hyper in
    let there = subst (λ (r : Roster). table_of r c.args.table ≡ Some c.args.info.now) c.requires.roster c.requires.there in
    let own : IsInterval c.in-Some.hyper.interval = interval_there (resumed c.args.image.now) c.args.table c.args.info.now hyper c.requires.valid there c.in-Some.is in
    let fits : FitsSigned w64 c.in-Some.hyper.interval = search rules in
    subst IsInterval (sym (to_z-of_z w64 c.in-Some.hyper.interval fits)) own

pub held_rows-requires-clause-inserts : goal.held_rows-requires-clause-inserts
held_rows-requires-clause-inserts c = ap (list_all is_timed) c.items.ensures.items ∙ image_timed c.args.image.now c.requires.valid

pub returns-clause-state : goal.returns-clause-state
returns-clause-state c =
    let hyper = c.in-Some.hyper in
    let table = c.in_ok-of.field-0 in
    let fits : FitsSigned w64 c.in-Some.hyper.interval = search rules in
    let held : IsHeld (appended_over c.args.table c.args.image.now.rows) c.in_ok-rows.rows = subst (λ (es : List Event). IsHeld (appended_over c.args.table es) c.in_ok-rows.rows) c.items.ensures.items c.in_ok-rows.ensures.held in
    let stands = table_resumed c.args.image.now c.args.table hyper table (subst (IsHeld (appended_over c.args.table c.args.image.now.rows)) (sym c.in_ok-of.ensures.rows) held)
    (ap (λ (t : Rattle.chunk_catalog.specs.Chunks.ChunksValue). t.interval) c.in_ok-of.ensures.rows ∙ c.in_ok-rows.ensures.interval ∙ to_z-of_z w64 c.in-Some.hyper.interval fits)
    (ap (λ (l : Rattle.inval_log.specs.Logs.LogValue). l.entries) c.in_ok-of.ensures.log ∙ c.empty_log-log.ensures.entries) in
    subst (λ (o : Option Hyper). TableIs (resumed c.args.image.now) c.args.table o (Some c.in_ok-of.field-0)) (sym c.in-Some.is) stands
