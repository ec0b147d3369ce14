use Rattle.std.proofs.Common.{◌≡◌, ◌++◌}
use Rattle.refresh_list.specs.Refreshes.{waiting_in}
use Rattle.refresh_list.proofs.lists.Refreshes.waiting.Given as goal

abbrev pub invariant-loop-refresh : goal.invariant-loop-refresh
invariant-loop-refresh l = l.found ++ waiting_in l.refresh-iterator ≡ waiting_in l.self
