use Rattle.std.proofs.Common.{◌≡◌, ◌≤◌, length, sym, ap, ◌∙◌, subst, arith, refl}
use Rattle.ts_model.specs.Roster.{roster}
use Rattle.image_laws.specs.Images.{row_events}
use Rattle.base_image.specs.Outlines.{commits, tallies}
use Rattle.base_image.proofs.OutlineLaws.{one_more_tally, one_more_commit, tallies_length}
use Rattle.base_image.proofs.tallies.table_tallies.Goals as goal

pub loop-table-preserved : goal.loop-table-preserved
loop-table-preserved g c =
    let held = g.I.Imaged.held c.args.of.now in (
      c.in_ok-push.ensures.pushed ∙ one_more_tally held c.loop-table.table c.loop-table.all _ c.loop-table.invariant.0 c.in_ok-table_tally.ensures.tally,
      λ h stands. one_more_commit held h c.loop-table.table (c.loop-table.invariant.1 h stands) (c.in_ok-table_tally.ensures.held h stands),
    )

pub returns : goal.returns
returns g c =
    let held = g.I.Imaged.held c.args.of.now in
    let all : c.loop-table.table ≡ length c.roster.result.now.tables = omega (arith, c.loop-table-test.false) in
    let count : length c.loop-table.all ≡ c.loop-table.table = ap length c.loop-table.invariant.0 ∙ tallies_length held 0 c.loop-table.table in
    record {
      tallied = c.loop-table.invariant.0 ∙ ap (tallies held 0) (sym count);
      few = omega (arith, count, all, c.roster.ensures.few_tables);
      held = λ h stands.
          ap (commits held 0) count ∙ c.loop-table.invariant.1 h stands ∙ ap (row_events h 0) (all ∙ ap (λ r. length r.tables) (c.roster.ensures.roster h stands));
    }
