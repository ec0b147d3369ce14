use Rattle.std.proofs.Common.{take}
use Rattle.group_fold.specs.Grouping.{all_rows}
use Rattle.group_fold.specs.Gathering.{IsGathered}
use Rattle.group_fold.proofs.pieces.fold_each.Given as goal

abbrev pub invariant-loop-piece : goal.invariant-loop-piece
invariant-loop-piece l = IsGathered l.plan (all_rows (take l.piece-index l.pieces)) l.gathered.groups
