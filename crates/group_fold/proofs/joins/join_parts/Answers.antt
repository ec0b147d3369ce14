use Rattle.std.proofs.Common.{◌≡◌, rules}
use Rattle.group_fold.specs.Merging.{with_groups}
use Rattle.group_fold.proofs.Merges.{groups_of_both}
use Rattle.group_fold.proofs.joins.join_parts.Goals as goal

pub returns-clause-of_rows : goal.returns-clause-of_rows
returns-clause-of_rows c =
    let made : c.of.result ≡ with_groups c.args.a.now c.args.b.now = search rules in
    groups_of_both c.args.a.now c.args.b.now c.of.result made
