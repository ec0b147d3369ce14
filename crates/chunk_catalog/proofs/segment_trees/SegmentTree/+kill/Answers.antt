use Rattle.std.proofs.Common.{◌∙◌, ap, sym, map, length, subst}
use Rattle.chunk_catalog.specs.SegmentTrees.{IsFork, IsPile}
use Rattle.chunk_catalog.proofs.LevelLaws.{fork_killed}
use Rattle.seg_rows.specs.Versions.{after_kill, died_out, later_death, taken_at}
use Rattle.seg_rows.proofs.VersionLaws.{after_kill-nothing, kill_nothing}
use Rattle.chunk_catalog.proofs.segment_trees.SegmentTree.+kill.Goals as goal

pub replace_if_changed-requires : goal.replace_if_changed-requires
replace_if_changed-requires t c = record {
  same = λ none. kill_nothing c.args.pos c.args.tests.now c.in-Fork.left.value.0 c.in_ok-first-in-Fork.first.pile.0 c.in_ok-first-in-Fork.first.removed
      (c.in_ok-first-in-Fork.ensures.after ∙ ap (λ v. map (after_kill c.args.pos c.args.tests.now) v.0) c.deref.ensures)
      (c.in_ok-first-in-Fork.ensures.removed ∙ ap (λ v. length (taken_at c.args.pos c.args.tests.now v.0)) c.deref.ensures) none;
  levels = c.in_ok-first-in-Fork.ensures.levels ∙ ap (λ v. v.1) c.deref.ensures;
}

pub replace_if_changed-requires-in-Fork : goal.replace_if_changed-requires-in-Fork
replace_if_changed-requires-in-Fork t c = record {
  same = λ none. kill_nothing c.args.pos c.args.tests.now c.in-Fork.right.value.0 c.in_ok-second-in-Fork.second.pile.0 c.in_ok-second-in-Fork.second.removed
      (c.in_ok-second-in-Fork.ensures.after ∙ ap (λ v. map (after_kill c.args.pos c.args.tests.now) v.0) c.deref-in-Fork.ensures)
      (c.in_ok-second-in-Fork.ensures.removed ∙ ap (λ v. length (taken_at c.args.pos c.args.tests.now v.0)) c.deref-in-Fork.ensures) none;
  levels = c.in_ok-second-in-Fork.ensures.levels ∙ ap (λ v. v.1) c.deref-in-Fork.ensures;
}

pub returns-then-is_spared-clause-after : goal.returns-then-is_spared-clause-after
returns-then-is_spared-clause-after t c =
    let none = c.is_spared.ensures.spared c.if-is_spared.true c.args.tests.now c.requires.times in
    ap (λ v. v.0) (c.unchanged_pile.ensures.pile ∙ c.in_ok-copy.ensures.same) ∙ sym (after_kill-nothing c.args.pos c.args.tests.now c.args.self.now.0 (ap length none))

pub invariant_of-result : goal.invariant_of-result
invariant_of-result t c =
    let left = c.in-Fork.left.value in
    let right = c.in-Fork.right.value in
    let fork : IsFork left right c.in-Fork.count c.in-Fork.hull c.in-Fork.field-4 = subst IsPile c.in-Fork.is c.self.invariant in
    fork_killed left right c.in_ok-left-in-Fork.left.value c.in_ok-right-in-Fork.right.value c.in-Fork.count c.args.pos c.in-Fork.hull c.in-Fork.field-4 c.both_died-dead.result c.args.tests.now fork
    (c.in_ok-left-in-Fork.ensures.versions ∙ (c.in_ok-first-in-Fork.ensures.after ∙ ap (λ v. map (after_kill c.args.pos c.args.tests.now) v.0) c.deref.ensures))
    (c.in_ok-right-in-Fork.ensures.versions ∙ (c.in_ok-second-in-Fork.ensures.after ∙ ap (λ v. map (after_kill c.args.pos c.args.tests.now) v.0) c.deref-in-Fork.ensures))
    (c.in_ok-left-in-Fork.ensures.levels ∙ (c.in_ok-first-in-Fork.ensures.levels ∙ ap (λ v. v.1) c.deref.ensures))
    (c.in_ok-right-in-Fork.ensures.levels ∙ (c.in_ok-second-in-Fork.ensures.levels ∙ ap (λ v. v.1) c.deref-in-Fork.ensures))
    (c.both_died-dead.ensures.later
    ∙ (ap (λ d. later_death d c.died_out-in-Fork.result) (c.died_out.ensures.dead ∙ ap (λ v. died_out v.0) c.deref-in-Fork-2.ensures)
    ∙ ap (later_death (died_out c.in_ok-left-in-Fork.left.value.0)) (c.died_out-in-Fork.ensures.dead ∙ ap (λ v. died_out v.0) c.deref-in-Fork-3.ensures)))
