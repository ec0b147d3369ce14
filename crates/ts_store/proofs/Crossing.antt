-- A store and its snapshots may cross threads if its disk may. The parts of an engine are proved one by one,
-- since one search through all of them doesn't end.
use Rattle.std.proofs.Crossing
use Rattle.chunk_catalog.proofs.segment_trees.SegmentTree.TheLaws.TheKnot as PileKnot
use Rattle.chunk_catalog.proofs.trees.Tree.TheLaws.TheKnot as TreeKnot
use denote.RattleType.{RattleType}
use Rattle.std.specs.contracts.option.Option as Option
use Rattle.txn_journal.proofs.journals.Journal.TheSendSync as OfJournal
use Rattle.ts_disk.specs.declared.disks.Disk.{Ghosts}
use Rattle.ts_model.specs.contracts.events.Event as Event
use Rattle.ts_model.specs.contracts.images.Image as Image
use Rattle.ts_model.specs.contracts.images.SavedView as SavedView
use Rattle.txn_journal.specs.contracts.journals.Journal as Journal
use Rattle.ts_store.specs.contracts.initial_value.InitialValue as Begun
use Rattle.ts_store.specs.contracts.recorders.Recorder as Recorder
use Rattle.ts_store.specs.contracts.stores.Store as Store
use Rattle.ts_store.specs.contracts.stores.Store.TheInside as Inside
use Rattle.logbook.proofs.tokens.Seen.TheSendSync as OfSeen
use denote.Struct.Declared.{shape}
use denote.Param.Send.{IsSend, IsSync, sendable, plain_send, struct_send, recorded_send, view_send}
use Rattle.std.proofs.alloc.Global.TheSendSync as OfGlobal
use Rattle.std.proofs.option.Option.TheSendSync as OfOption
use Rattle.std.proofs.sync.Arc.TheSendSync as OfArc
use Rattle.seg_rows.proofs.segments.Segment.TheSendSync as OfSegment
use Rattle.ts_bucket.proofs.spans.Hull.TheSendSync as OfHull
use Rattle.ts_schema.proofs.sequences.Seq.TheSendSync as OfSeq
use Rattle.ts_model.specs.contracts.rosters.Roster as Roster
use Rattle.refresh_list.specs.contracts.lists.Refreshes as Refreshes
use Rattle.row_versions.specs.contracts.tables.Table as Table
use Rattle.inval_log.specs.contracts.logs.InvalLog as InvalLog
use Rattle.mat_log.specs.contracts.logs.MatLog as MatLog
use Rattle.mat_rows.specs.contracts.rows.MatRows as MatRows
use Rattle.span_map.specs.contracts.shared.SharedMap as SharedMap
use Rattle.partial_agg.specs.contracts.groups.Group as Group
use Rattle.block_list.proofs.lists.BlockList.TheSendSync as OfBlockList
use Rattle.engine_state.specs.contracts.tables.TableState as TableState
use Rattle.engine_state.specs.contracts.views.ViewState as ViewState
use Rattle.engine_state.specs.contracts.states.State as State
use Rattle.engine_core.specs.contracts.engines.Engine as Engine
use Rattle.engine_core.specs.contracts.shots.Shot as Shot

table_send : IsSend Table.the_row
table_send = search (OfOption.the_send, OfOption.the_sync, OfSegment.the_send, OfSegment.the_sync, OfArc.the_send, OfArc.the_sync, OfGlobal.the_field_send, OfGlobal.the_send, OfHull.the_send, OfHull.the_sync, Crossing.crosses, PileKnot.crosses, TreeKnot.crosses, sendable) depth 60 fits 20000

table_sync : IsSync Table.the_row
table_sync = search (OfOption.the_send, OfOption.the_sync, OfSegment.the_send, OfSegment.the_sync, OfArc.the_send, OfArc.the_sync, OfGlobal.the_field_sync, OfGlobal.the_send, OfHull.the_send, OfHull.the_sync, Crossing.crosses, PileKnot.crosses, TreeKnot.crosses, sendable) depth 60 fits 20000

inval_log_send : IsSend InvalLog.the_row
inval_log_send = search (OfBlockList.the_send, Crossing.crosses, sendable) depth 60 fits 20000

inval_log_sync : IsSync InvalLog.the_row
inval_log_sync = search (OfBlockList.the_sync, Crossing.crosses, sendable) depth 60 fits 20000

shared_map_send : IsSend SharedMap.the_row
shared_map_send = search (OfBlockList.the_send, Crossing.crosses, sendable) depth 60 fits 20000

shared_map_sync : IsSync SharedMap.the_row
shared_map_sync = search (OfBlockList.the_sync, Crossing.crosses, sendable) depth 60 fits 20000

mat_log_send : IsSend MatLog.the_row
mat_log_send = search (shared_map_send, Crossing.crosses, sendable) depth 60 fits 20000

mat_log_sync : IsSync MatLog.the_row
mat_log_sync = search (shared_map_sync, Crossing.crosses, sendable) depth 60 fits 20000

group_send : IsSend Group.the_row
group_send = search (Crossing.crosses, sendable) depth 60 fits 20000

group_sync : IsSync Group.the_row
group_sync = search (Crossing.crosses, sendable) depth 60 fits 20000

mat_rows_send : IsSend MatRows.the_row
mat_rows_send = search (OfBlockList.the_send, group_send, group_sync, Crossing.crosses, sendable) depth 60 fits 20000

mat_rows_sync : IsSync MatRows.the_row
mat_rows_sync = search (OfBlockList.the_sync, group_send, group_sync, Crossing.crosses, sendable) depth 60 fits 20000

table_state_send : IsSend TableState.the_row
table_state_send = search (table_send, table_sync, inval_log_send, inval_log_sync, Crossing.crosses, sendable) depth 60 fits 20000

table_state_sync : IsSync TableState.the_row
table_state_sync = search (table_send, table_sync, inval_log_send, inval_log_sync, Crossing.crosses, sendable) depth 60 fits 20000

view_state_send : IsSend ViewState.the_row
view_state_send = search (mat_log_send, mat_log_sync, mat_rows_send, mat_rows_sync, Crossing.crosses, sendable) depth 60 fits 20000

view_state_sync : IsSync ViewState.the_row
view_state_sync = search (mat_log_send, mat_log_sync, mat_rows_send, mat_rows_sync, Crossing.crosses, sendable) depth 60 fits 20000

roster_send : IsSend Roster.the_row
roster_send = search (Crossing.crosses, sendable) depth 60 fits 20000

roster_sync : IsSync Roster.the_row
roster_sync = search (Crossing.crosses, sendable) depth 60 fits 20000

refreshes_send : IsSend Refreshes.the_row
refreshes_send = search (OfBlockList.the_send, Crossing.crosses, sendable) depth 60 fits 20000

refreshes_sync : IsSync Refreshes.the_row
refreshes_sync = search (OfBlockList.the_sync, Crossing.crosses, sendable) depth 60 fits 20000

state_send : IsSend State.the_row
state_send = search (roster_send, roster_sync, refreshes_send, table_state_send, view_state_send, OfOption.the_field_send, OfOption.the_send, OfArc.the_send, OfGlobal.the_field_send, OfSeq.the_send, Crossing.crosses, sendable) depth 60 fits 20000

state_sync : IsSync State.the_row
state_sync = search (roster_send, roster_sync, refreshes_sync, table_state_sync, view_state_sync, OfOption.the_field_sync, OfOption.the_sync, OfArc.the_sync, OfGlobal.the_field_sync, OfSeq.the_sync, Crossing.crosses, sendable) depth 60 fits 20000

event_send : IsSend Event.the_row
event_send = search (Crossing.crosses, sendable) depth 60 fits 20000

saved_view_send : IsSend SavedView.the_row
saved_view_send = search (OfSeq.the_send, Crossing.crosses, sendable) depth 60 fits 20000

image_send : IsSend Image.the_row
image_send = search (event_send, saved_view_send, OfSeq.the_send, Crossing.crosses, sendable) depth 60 fits 20000

base_send : IsSend (Option.the_row Image.the_row)
base_send = search (image_send, OfOption.the_field_send, OfOption.the_send, Crossing.crosses, sendable) depth 60 fits 20000

pub engine_send : IsSend Engine.the_row
engine_send = search (state_send, state_sync, base_send, image_send, event_send, OfOption.the_field_send, OfOption.the_send, Crossing.crosses, sendable) depth 60 fits 20000

pub shot_send : IsSend Shot.the_row
shot_send = search (state_send, state_sync, Crossing.crosses, sendable) depth 60 fits 20000

failed_send : IsSend (Option.the_row Event.the_row)
failed_send = search (event_send, OfOption.the_field_send, OfOption.the_send, Crossing.crosses, sendable) depth 60 fits 20000

begun_send : (T : RattleType) → IsSend (Begun.the_row T)
begun_send T = search (OfSeen.the_send, Crossing.crosses, sendable) depth 60 fits 20000

module _ (T : RattleType) (disk : Ghosts T.Denot) (s : IsSend T) where
  journal_send : IsSend (Journal.the_row T disk)
  journal_send = OfJournal.the_send T disk s

  recorder_fields_send : IsSend (Recorder.the_field T disk).row
  recorder_fields_send = struct_send (shape (Recorder.the_type T disk)) (engine_send, (journal_send, (OfOption.the_field_send Event.the_row event_send, tt)))

  recorder_send : IsSend (Recorder.the_row T disk)
  recorder_send = recorded_send (Recorder.the_field T disk).row _ _ (Recorder.the_type T disk).to_one recorder_fields_send

  pub store_send : IsSend (Store.the_row T disk)
  store_send = view_send (Inside.the_row T disk) _ _ _ _ (recorded_send (Inside.the_field T disk).row _ _ (Inside.the_type T disk).to_one (struct_send (shape (Inside.the_type T disk)) (OfGlobal.the_field_send, (recorder_fields_send, (begun_send T, (plain_send _ _ _ _ _, (plain_send _ _ _ _ _, tt)))))))
