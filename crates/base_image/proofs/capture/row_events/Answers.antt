use Rattle.std.proofs.Common.{◌≡◌, ◌≤◌, length, sym, ap, ◌∙◌, arith}
use Rattle.ts_model.specs.Roster.{roster}
use Rattle.image_laws.specs.Images.{row_events, held_events}
use Rattle.base_image.proofs.TakingLaws.{one_more_held}
use Rattle.base_image.proofs.capture.row_events.Goals as goal

pub loop-table-preserved : goal.loop-table-preserved
loop-table-preserved g c = λ h stands.
    c.in_ok-push_held.ensures.pushed
    ∙ one_more_held h c.loop-table.table c.loop-table.events _ (c.loop-table.invariant h stands) (c.in_ok-rows.ensures.rows h stands)

pub returns : goal.returns
returns g c = record {
  held = λ h stands.
      let all : c.loop-table.table ≡ length c.roster.result.now.tables = omega (arith, c.loop-table-test.false) in
      c.loop-table.invariant h stands ∙ ap (row_events h 0) (all ∙ ap (λ r. length r.tables) (c.roster.ensures.roster h stands));
}
