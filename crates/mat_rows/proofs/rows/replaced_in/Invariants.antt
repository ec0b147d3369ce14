use Rattle.std.proofs.Common.{drop}
use Rattle.mat_rows.specs.Replacing.{groups_replaced}
use Rattle.mat_rows.proofs.ReplaceLaws.{IsReplacing}
use Rattle.mat_rows.proofs.rows.replaced_in.Given as goal

abbrev pub invariant-loop-span : goal.invariant-loop-span
invariant-loop-span l = IsReplacing (groups_replaced l.spans l.groups.items l.old.items) l.groups.items l.old.items l.made l.at (drop l.span-index l.spans)
