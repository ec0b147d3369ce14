-- A store on a disk that fails may cross threads, and so may its snapshots.
use denote.Exit.{no}
use denote.Param.Send.{arg_send, param_send}
use Rattle.ts_disk.proofs.fail_disks.FailDisk.TheSendSync.{the_send}
use Rattle.ts_disk.specs.contracts.fail_disks.FailDisk.{the_row}
use Rattle.ts_disk.specs.contracts.fail_disks.FailDiskDisk.TheImpl.{ghosts}
use Rattle.ts_store.proofs.Crossing.{shot_send, store_send}
use Rattle.par_tests.proofs.stops.a_store_that_stopped_stands_still_for_all.Goals as goal

pub run_sessions-end-requires-send-B : goal.run_sessions-end-requires-send-B
run_sessions-end-requires-send-B g c κs = param_send 0 _ (arg_send _ no _ (store_send the_row ghosts the_send))

pub run_sessions-end-requires-send-B-Shot : goal.run_sessions-end-requires-send-B-Shot
run_sessions-end-requires-send-B-Shot g c κs = search (shot_send, arg_send, param_send) depth 10
