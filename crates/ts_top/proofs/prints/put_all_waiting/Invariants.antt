-- The lines of the refreshes before this index were appended.
use Rattle.std.proofs.Common.{◌≡◌, ◌++◌, drop}
use Rattle.ts_top.specs.Logs.{waiting_texts}
use Rattle.ts_top.proofs.prints.put_all_waiting.Given as goal

abbrev pub invariant-loop-refresh : goal.invariant-loop-refresh
invariant-loop-refresh l = l.out.items ++ waiting_texts l.names (drop l.refresh-index l.refreshes) ≡ l.initial.out.items ++ waiting_texts l.names l.refreshes
