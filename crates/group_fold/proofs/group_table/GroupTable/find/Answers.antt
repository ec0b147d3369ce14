use Rattle.std.proofs.Common.{rules}
use Rattle.std.specs.Prelude.{IfOk}
use Rattle.std.specs.Int.{w64}
use Rattle.std.specs.Int.RustNames.{FitsSigned}
use Rattle.std.proofs.lemmas.Int.{to_z-of_z}
use Rattle.std.proofs.lemmas.Result.{IfOk-weaker}
use Rattle.group_fold.specs.Grouping.{row_at}
use Rattle.group_fold.specs.Gathering.{IsAt}
use Rattle.group_fold.specs.Blocks.{IsHeadAt}
use Rattle.group_fold.proofs.group_table.GroupTable.find.Goals as goal

pub returns-else-self-clause-found : goal.returns-else-self-clause-found
returns-else-self-clause-found c =
    let fits : FitsSigned w64 c.args.start = search rules in
    let group = row_at c.args.plan.now c.args.start c.args.row.now in
    let found : IfOk c.place_of.result (IsHeadAt group c.heads.result.now) = rw (to_z-of_z w64 c.args.start fits) at c.place_of.ensures.found in
    IfOk-weaker c.place_of.result (IsHeadAt group c.heads.result.now) (IsAt group c.args.self.now.groups) (λ at is. c.heads.ensures.stand group at is) found
