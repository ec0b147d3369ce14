use Rattle.std.proofs.Common.{◌≡◌, length, get_or, pos, sym, ap, ◌∙◌, subst, arith}
use Rattle.std.proofs.lemmas.List.{length-set}
use Rattle.ts_num.specs.declared.values.Fun.TheVariants.{CountAll}
use Rattle.ts_model.specs.declared.views.Agg.{Agg}
use Rattle.partial_agg.specs.Summaries.{summary_of_both}
use Rattle.cell_groups.specs.declared.tallies.Tally.{Tally}
use Rattle.cell_groups.specs.KeptSummaries.{as_part, cell_tally, row_tallies}
use Rattle.cell_groups.specs.Room.{CanBeKept}
use Rattle.cell_groups.proofs.Room.{tally_kept}
use Rattle.cell_groups.proofs.KeptSummaries.{length-row_tallies, row_tallies-at, tallies_step, tallies_whole}
use Rattle.cell_groups.proofs.tallies.add_row.Goals as goal

pub loop-k-preserved : goal.loop-k-preserved
loop-k-preserved c =
    let aggs = c.args.aggs.now in
    let k = c.loop-k.k in
    let other : Agg = record { fun = CountAll; col = 0 } in
    let none : Tally = record { values = 0; number = pos 0 } in
    let fun = (get_or aggs k other).fun in
    let own : cell_tally fun c.value_at.result ≡ get_or (row_tallies aggs c.args.cells.now) k none =
    ap (cell_tally fun) c.value_at.ensures.value ∙ sym (row_tallies-at aggs c.args.cells.now k other none (omega (arith, c.loop-k-test.true))) in
    record {
      many = ap length c.set.ensures.set ∙ length-set c.loop-k.tallies k c.in-Some.tally ∙ c.loop-k.invariant.many;
      merged =
          tallies_step aggs c.args.tallies.now (row_tallies aggs c.args.cells.now) c.loop-k.tallies c.set.new.self k other none c.get.result.now c.in-Some.tally
          c.requires (length-row_tallies aggs c.args.cells.now) c.loop-k.invariant.many c.loop-k.invariant.merged (omega (arith, c.loop-k-test.true)) c.get.ensures.item
          (c.in-Some.ensures.sum ∙ ap (λ t. summary_of_both (as_part fun c.get.result.now) (as_part fun t)) own) c.set.ensures.set;
    }

pub returns-clause-parts : goal.returns-clause-parts
returns-clause-parts c =
    let aggs = c.args.aggs.now in
    tallies_whole aggs c.args.tallies.now (row_tallies aggs c.args.cells.now) c.loop-k.tallies c.loop-k.k c.requires (length-row_tallies aggs c.args.cells.now) c.loop-k.invariant.merged (omega (arith, c.loop-k-test.false))

pub returns-in_default-clause-room : goal.returns-in_default-clause-room
returns-in_default-clause-room c all =
    let aggs = c.args.aggs.now in
    let k = c.loop-k.k in
    let other : Agg = record { fun = CountAll; col = 0 } in
    let none : Tally = record { values = 0; number = pos 0 } in
    let fun = (get_or aggs k other).fun in
    let own : cell_tally fun c.value_at.result ≡ get_or (row_tallies aggs c.args.cells.now) k none =
    ap (cell_tally fun) c.value_at.ensures.value ∙ sym (row_tallies-at aggs c.args.cells.now k other none (omega (arith, c.loop-k-test.true))) in
    c.in_default.ensures.room
    (subst (λ t. CanBeKept (summary_of_both (as_part fun c.get.result.now) (as_part fun t))) (sym own)
    (tally_kept aggs c.args.tallies.now (row_tallies aggs c.args.cells.now) c.loop-k.tallies k other none c.get.result.now
    c.requires (length-row_tallies aggs c.args.cells.now) c.loop-k.invariant.many c.loop-k.invariant.merged (omega (arith, c.loop-k-test.true)) c.get.ensures.item all))
