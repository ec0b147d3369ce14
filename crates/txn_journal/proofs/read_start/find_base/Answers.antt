use Rattle.std.proofs.Common.{◌+◌, ◌∙◌, subst, arith}
use Rattle.txn_journal.specs.Reading.{IsHead}
use Rattle.txn_journal.specs.declared.heads.Head.{Head}
use Rattle.txn_journal.proofs.BaseLaws.{walk_breaks, walk_ends, walks}
use Rattle.txn_journal.proofs.HeadLaws.{room_in, told_length}
use Rattle.txn_journal.proofs.Moments.{keeps_both}
use Rattle.txn_journal.proofs.read_start.find_base.Goals as goal

pub frames-preserved : goal.frames-preserved
frames-preserved g c =
    let room = room_in c.in_ok-seen.seen.head c.in-Frame.length c.in-Frame.first c.frames.at c.in_ok-seen.seen.size c.in-Frame.is c.in_ok-seen.ensures.within in
    record {
      walked = λ file told starts.
          let there = c.frames.invariant.kept.same ∙ told in
          let long = told_length (g.D.Disk.bytes c.sight_head.new.disk) file c.in_ok-seen.seen.size (c.in_ok-seen.ensures.kept.same ∙ there) c.in_ok-seen.ensures.length in
          let old_long = told_length (g.D.Disk.bytes c.frames.disk) file c.frames.size there c.frames.invariant.length in
          walks file c.frames.at c.frames.base c.in-Frame.length c.in-Frame.first (c.frames.invariant.walked file told starts) (omega (arith, c.frames.invariant.within, old_long))
          (subst (λ (h : Head). IsHead h file c.frames.at) c.in-Frame.is (c.in_ok-seen.ensures.head file there))
          (omega (arith, room, long)) c.begins_base.result (c.frames.at + (5 + c.in-Frame.length)) c.last_base-base.result c.begins_base.ensures (omega arith) c.last_base-base.ensures.last;
      behind = omega (arith, c.frames.invariant.behind, c.last_base-base.ensures.from);
      passed = omega (arith, c.last_base-base.ensures.upto);
      within = omega (arith, room);
      most = c.in_ok-seen.ensures.most;
      length = c.in_ok-seen.ensures.length;
      kept = keeps_both g.D.Disk.bytes g.D.Disk.may_leave g.D.Disk.moment g.D.Disk.left_since c.args.disk.now c.frames.disk c.sight_head.new.disk c.frames.invariant.kept c.in_ok-seen.ensures.kept;
      counted = c.in_ok-seen.ensures.counted ∙ c.frames.invariant.counted;
    }

pub returns-in-Closed-clause-found : goal.returns-in-Closed-clause-found
returns-in-Closed-clause-found g c = λ file told starts.
    let there = c.frames.invariant.kept.same ∙ told in
    walk_ends file c.frames.at c.frames.base (c.frames.invariant.walked file told starts)
    (omega (arith, c.frames.invariant.within, told_length (g.D.Disk.bytes c.frames.disk) file c.frames.size there c.frames.invariant.length))
    (subst (λ (h : Head). IsHead h file c.frames.at) c.in-Closed.is (c.in_ok-seen.ensures.head file there))

pub returns-in-Short-clause-found : goal.returns-in-Short-clause-found
returns-in-Short-clause-found g c = λ file told starts.
    let there = c.frames.invariant.kept.same ∙ told in
    walk_breaks file c.frames.at c.frames.base (c.frames.invariant.walked file told starts)
    (omega (arith, c.frames.invariant.within, told_length (g.D.Disk.bytes c.frames.disk) file c.frames.size there c.frames.invariant.length))
    (subst (λ (h : Head). IsHead h file c.frames.at) c.in-Short.is (c.in_ok-seen.ensures.head file there))
