use Rattle.ts_disk.proofs.ActLaws.{did_write, did_tear, did_time}
use Rattle.ts_disk.specs.declared.disk_acts.Act.TheVariants.{Write}
use Rattle.ts_disk.proofs.mem_disks.MemDiskDisk.write_at.Goals as goal

pub returns-clause-written : goal.returns-clause-written
returns-clause-written c = did_write c.args.self.now (record { at = c.args.at; bytes = c.args.piece.now }) c.try_put.result c.try_put.new.self c.try_put.ensures.exact

pub returns-clause-crash : goal.returns-clause-crash
returns-clause-crash c = did_tear c.args.self.now (record { at = c.args.at; bytes = c.args.piece.now }) c.try_put.result c.try_put.new.self c.try_put.ensures.exact c.requires.range

pub returns-clause-time : goal.returns-clause-time
returns-clause-time c = did_time c.args.self.now (Write (record { at = c.args.at; bytes = c.args.piece.now })) c.try_put.result c.try_put.new.self c.try_put.ensures.exact
