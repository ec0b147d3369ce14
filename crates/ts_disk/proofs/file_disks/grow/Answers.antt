use Rattle.std.proofs.Common.{◌+◌, ◌*◌, ◌/◌, ◌≤◌, take, replicate, arith}
use Rattle.std.proofs.lemmas.List.{take-replicate}
use Rattle.ts_disk.specs.FileCalls.{Spares}
use Rattle.ts_disk.proofs.FileLaws.{on_err, zeros_spare, zeros_step}
use Rattle.ts_disk.proofs.file_disks.grow.Goals as goal

pub returns-in_err-write-clause-spares : goal.returns-in_err-write-clause-spares
returns-in_err-write-clause-spares g c =
    let told = g.F.FileCalls.known c.args.file.now in
    let new = g.F.FileCalls.known c.write.new.self in
    on_err c.from_residual.result (Spares told c.args.end 0 new) (zeros_spare told (g.F.FileCalls.known c.loop-at.file) new c.args.end c.loop-at.at _ c.requires.at_end c.loop-at.invariant.from c.loop-at.invariant.zeros c.in_err-write.ensures.writes)

pub loop-at-preserved : goal.loop-at-preserved
loop-at-preserved g c =
    let few : c.min-n.result ≤ 4096 = omega (arith, c.min-n.ensures) in
    let from : c.args.end ≤ c.loop-at.at = c.loop-at.invariant.from in
    let within : c.loop-at.at + c.min-n.result ≤ (c.args.end / 262144 + 1) * 262144 = omega (arith, c.min-n.ensures, c.loop-at.invariant.within) in
    record {
      from = omega (arith, from);
      within = within;
      zeros = zeros_step (g.F.FileCalls.known c.args.file.now) (g.F.FileCalls.known c.loop-at.file) (g.F.FileCalls.known c.write.new.self) c.args.end c.loop-at.at c.min-n.result (take c.min-n.result (replicate 4096 0)) c.requires.at_end from (take-replicate c.min-n.result 4096 0 few) c.loop-at.invariant.zeros c.in_ok-write.ensures.writes;
    }
