use Rattle.std.proofs.Common.{◌≡◌, ◌++◌, drop, map}
use Rattle.refresh_list.specs.Refreshes.{of_done}
use Rattle.refresh_list.proofs.lists.push_done.Given as goal

abbrev pub invariant-loop-finished : goal.invariant-loop-finished
invariant-loop-finished l = l.list.items ++ map of_done (drop l.finished-index l.done) ≡ l.fn.list.items ++ map of_done l.fn.done
