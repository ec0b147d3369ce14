use Rattle.std.proofs.Common.{sym, ◌∙◌, ap, subst}
use Rattle.engine_core.specs.Histories.{history_of}
use Rattle.ts_disk.specs.Disk.{Keeps}
use Rattle.txn_journal.specs.Contents.{Content}
use Rattle.txn_journal.specs.Reading.{HasRead, based_on, with_next}
use Rattle.txn_journal.proofs.Moments.{keeps_both}
use Rattle.ts_store.specs.Stands.{content_of}
use Rattle.ts_store.proofs.ReplayLaws.{damaged_short, resumed_counts, resumed_sound, taken_more, taken_sound}
use Rattle.ts_store.proofs.replays.replay.Goals as goal

pub events-preserved : goal.events-preserved
events-preserved g c =
    let old = g.T.Follower.past c.events.follower in
    let new = g.T.Follower.past c.take_payload.new.follower in
    let before = content_of (history_of (g.T.Follower.past c.events.follower)) in
    record {
      read = λ file has.
          let step = c.in-Payload.ensures.steps file before (c.events.invariant.read file has) in
          let more = taken_more c.payload.result.now old new c.in-Done-take_payload.ensures.taken ∙ ap (with_next before) c.payload.ensures.payload in
          subst (λ (now : Content). HasRead g.D.Disk.bytes c.next.new.self file now) (sym more) step.1;
      sound = taken_sound c.payload.result.now old new c.events.invariant.sound c.in-Done-take_payload.ensures.taken;
      kept = keeps_both g.D.Disk.bytes g.D.Disk.may_leave g.D.Disk.moment g.D.Disk.left_since c.args.reader.disk c.events.reader.disk c.next.new.self.disk c.events.invariant.kept c.next.ensures.kept;
      counted = c.in-Payload.ensures.counted ∙ c.events.invariant.counted;
    }

pub events-preserved-in-Done : goal.events-preserved-in-Done
events-preserved-in-Done g c =
    let before = content_of (history_of (g.T.Follower.past c.events.follower)) in
    let new = g.T.Follower.past c.take_base.new.follower in
    record {
      read = λ file has.
          let step = c.in-Base.ensures.steps file before (c.events.invariant.read file has) in
          let now = resumed_counts c.take_out.result new c.in-Done.ensures.resumed ∙ ap based_on c.take_out.ensures.payload in
          subst (λ (now : Content). HasRead g.D.Disk.bytes c.take_out.new.self file now) (sym now)
          (c.take_out.ensures.read file (based_on c.next.new.self.payload) step.1);
      sound = resumed_sound c.take_out.result new c.in-Done.ensures.resumed;
      kept = subst (λ (disk : g.row.D.Denot). Keeps g.D.Disk.bytes g.D.Disk.may_leave g.D.Disk.moment g.D.Disk.left_since c.args.reader.disk disk) (sym c.take_out.ensures.disk)
          (keeps_both g.D.Disk.bytes g.D.Disk.may_leave g.D.Disk.moment g.D.Disk.left_since c.args.reader.disk c.events.reader.disk c.next.new.self.disk c.events.invariant.kept c.next.ensures.kept);
      counted = ap g.D.Disk.faults c.take_out.ensures.disk ∙ c.in-Base.ensures.counted ∙ c.events.invariant.counted;
    }

pub returns-in-End-clause-at_rest : goal.returns-in-End-clause-at_rest
returns-in-End-clause-at_rest g c = λ file has only.
    let now = content_of (history_of (g.T.Follower.past c.events.follower)) in
    let kept = keeps_both g.D.Disk.bytes g.D.Disk.may_leave g.D.Disk.moment g.D.Disk.left_since c.args.reader.disk c.events.reader.disk c.next.new.self.disk c.events.invariant.kept c.next.ensures.kept in
    c.finish.ensures.at_rest file now (c.in-End.ensures.steps file now (c.events.invariant.read file has)).1 (λ image left. only image (kept.leaves image left))

pub returns-in-Damaged-clause-replays : goal.returns-in-Damaged-clause-replays
returns-in-Damaged-clause-replays g c = λ file has.
    let h = history_of (g.T.Follower.past c.events.follower) in
    damaged_short file h c.in-Damaged.at c.events.invariant.sound (c.in-Damaged.ensures.steps file (content_of h) (c.events.invariant.read file has)).0
