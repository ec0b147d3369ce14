use Rattle.std.proofs.Common.{◌≡◌, ◌++◌, drop}
use Rattle.block_list.proofs.builders.Builder.push_all.Given as goal

abbrev pub invariant-loop-item : goal.invariant-loop-item
invariant-loop-item g l = l.self ++ drop l.item-index l.items ≡ l.initial.self ++ l.items
