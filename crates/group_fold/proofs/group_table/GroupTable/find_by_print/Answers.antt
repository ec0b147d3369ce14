use Rattle.std.proofs.Common.{rules}
use Rattle.std.specs.Int.{w64}
use Rattle.std.specs.Int.RustNames.{FitsSigned}
use Rattle.std.proofs.lemmas.Int.{to_z-of_z}
use Rattle.group_fold.specs.Grouping.{row_at}
use Rattle.group_fold.proofs.group_table.GroupTable.find_by_print.Goals as goal

pub returns-then-is_of-clause-found : goal.returns-then-is_of-clause-found
returns-then-is_of-clause-found c =
    let fits : FitsSigned w64 c.args.start = search rules in
    c.heads-heads.ensures.stand (row_at c.args.plan.now c.args.start c.args.row.now) c.args.self.now.last (rw (to_z-of_z w64 c.args.start fits) at (c.is_of.ensures c.if-is_of.true))

pub returns-then-is_of-2-clause-found : goal.returns-then-is_of-2-clause-found
returns-then-is_of-2-clause-found c =
    let fits : FitsSigned w64 c.args.start = search rules in
    c.heads-heads.ensures.stand (row_at c.args.plan.now c.args.start c.args.row.now) c.in-Some.at.now (rw (to_z-of_z w64 c.args.start fits) at (c.is_of-in-Some.ensures c.if-is_of-2.true))
