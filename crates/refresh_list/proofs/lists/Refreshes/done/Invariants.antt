use Rattle.std.proofs.Common.{◌≡◌, ◌++◌}
use Rattle.refresh_list.specs.Refreshes.{done_in}
use Rattle.refresh_list.proofs.lists.Refreshes.done.Given as goal

abbrev pub invariant-loop-refresh : goal.invariant-loop-refresh
invariant-loop-refresh l = l.found ++ done_in l.refresh-iterator ≡ done_in l.self
