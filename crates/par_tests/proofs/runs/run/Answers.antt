-- A store in memory may cross threads, and so may its snapshots.
use denote.Exit.{no}
use denote.Param.Send.{IsSend, arg_send, param_send, sendable}
use Rattle.std.proofs.Crossing.{crosses}
use Rattle.engine_core.specs.contracts.mem_stores.MemStore.{the_row}
use Rattle.ts_store.proofs.Crossing.{engine_send, shot_send}
use Rattle.par_tests.proofs.runs.run.Goals as goal

mem_store_send : IsSend the_row
mem_store_send = search (engine_send, crosses, sendable)

pub run_sessions-requires-send-B : goal.run_sessions-requires-send-B
run_sessions-requires-send-B g c κs within = param_send 0 _ (arg_send _ no the_row mem_store_send)

pub run_sessions-requires-send-B-Shot : goal.run_sessions-requires-send-B-Shot
run_sessions-requires-send-B-Shot g c κs within = search (shot_send, arg_send, param_send) depth 10
