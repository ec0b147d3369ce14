use Rattle.ts_disk.proofs.ActLaws.{did_sync, did_last, did_leave_less, did_time}
use Rattle.ts_disk.specs.declared.disk_acts.Act.TheVariants.{Sync}
use Rattle.ts_disk.proofs.mem_disks.MemDiskDisk.sync.Goals as goal

pub returns-clause-same : goal.returns-clause-same
returns-clause-same c = did_sync c.args.self.now c.try_sync.result c.try_sync.new.self c.try_sync.ensures.exact

pub returns-clause-durable : goal.returns-clause-durable
returns-clause-durable c = did_last c.args.self.now c.try_sync.result c.try_sync.new.self c.try_sync.ensures.exact

pub returns-clause-crash : goal.returns-clause-crash
returns-clause-crash c = did_leave_less c.args.self.now c.try_sync.result c.try_sync.new.self c.try_sync.ensures.exact

pub returns-clause-time : goal.returns-clause-time
returns-clause-time c = did_time c.args.self.now Sync c.try_sync.result c.try_sync.new.self c.try_sync.ensures.exact
