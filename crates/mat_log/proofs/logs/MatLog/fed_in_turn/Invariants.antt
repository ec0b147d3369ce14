use Rattle.std.proofs.Common.{◌≡◌, true, ℤ, drop}
use Rattle.ts_bucket.specs.Bucket.{is_bucket}
use Rattle.mat_log.specs.Logs.{pending_at, last_at}
use Rattle.mat_log.specs.Feeding.{pending_after_all}
use Rattle.mat_log.proofs.logs.MatLog.fed_in_turn.Given as goal

abbrev pub invariant-loop-entry : goal.invariant-loop-entry
invariant-loop-entry l = record {
  width : l.fed.width ≡ l.fn.self.width;
  refreshed : (b : ℤ) → last_at l.fed b ≡ last_at l.fn.self b;
  pending : (b : ℤ) → is_bucket l.fn.self.width b ≡ true → pending_after_all l.fn.self.width b (last_at l.fn.self b) (drop l.entry-index l.entries) (pending_at l.fed b) ≡ pending_after_all l.fn.self.width b (last_at l.fn.self b) l.entries (pending_at l.fn.self b);
}
