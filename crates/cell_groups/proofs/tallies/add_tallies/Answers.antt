use Rattle.std.proofs.Common.{length, pos, ap, ◌∙◌, arith}
use Rattle.std.proofs.lemmas.List.{length-set}
use Rattle.ts_num.specs.declared.values.Fun.TheVariants.{CountAll}
use Rattle.cell_groups.proofs.Room.{tally_kept}
use Rattle.cell_groups.proofs.KeptSummaries.{tallies_step, tallies_whole}
use Rattle.cell_groups.proofs.tallies.add_tallies.Goals as goal

pub loop-k-preserved : goal.loop-k-preserved
loop-k-preserved c = record {
  many = ap length c.set.ensures.set ∙ length-set c.loop-k.tallies c.loop-k.k c.in-Some.tally ∙ c.loop-k.invariant.many;
  merged =
      tallies_step c.args.aggs.now c.args.tallies.now c.args.others.now c.loop-k.tallies c.set.new.self c.loop-k.k (record { fun = CountAll; col = 0 }) (record { values = 0; number = pos 0 }) c.get.result.now c.in-Some.tally
      c.requires.mine c.requires.theirs c.loop-k.invariant.many c.loop-k.invariant.merged (omega (arith, c.loop-k-test.true)) c.get.ensures.item c.in-Some.ensures.sum c.set.ensures.set;
}

pub returns-clause-parts : goal.returns-clause-parts
returns-clause-parts c =
    tallies_whole c.args.aggs.now c.args.tallies.now c.args.others.now c.loop-k.tallies c.loop-k.k c.requires.mine c.requires.theirs c.loop-k.invariant.merged (omega (arith, c.loop-k-test.false))

pub returns-in_default-clause-room : goal.returns-in_default-clause-room
returns-in_default-clause-room c all =
    c.in_default.ensures.room
    (tally_kept c.args.aggs.now c.args.tallies.now c.args.others.now c.loop-k.tallies c.loop-k.k (record { fun = CountAll; col = 0 }) (record { values = 0; number = pos 0 }) c.get.result.now
    c.requires.mine c.requires.theirs c.loop-k.invariant.many c.loop-k.invariant.merged (omega (arith, c.loop-k-test.true)) c.get.ensures.item all)
