use Rattle.std.proofs.Common.{◌≡◌, ◌-◌, ◌^◌, length, take, min}
use Rattle.group_fold.specs.Grouping.{all_rows}
use Rattle.group_fold.proofs.pieces.count_rows.Given as goal

abbrev pub invariant-loop-piece : goal.invariant-loop-piece
invariant-loop-piece l = l.count ≡ min (length (all_rows (take l.piece-index l.pieces))) (2 ^ 64 - 1)
