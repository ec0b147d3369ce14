use Rattle.std.proofs.Common.{◌≡◌, ◌++◌, ◌∙◌, ap, map, length, sym, subst, arith}
use Rattle.std.proofs.lemmas.List.{length-map}
use Rattle.std.proofs.lemmas.Result.{IfOk-weaker}
use Rattle.seg_rows.specs.Hulls.{hull_of}
use Rattle.seg_rows.specs.Versions.{taken_at}
use Rattle.chunk_catalog.specs.Levels.{AreLevel, IsOver, Levels, levels_over}
use Rattle.chunk_catalog.specs.Places.{after_kill_in, placed_in, versions_in}
use Rattle.chunk_catalog.specs.Trees.{IsTree, tree_view}
use Rattle.chunk_catalog.proofs.PlaceLaws.{kill_nothing_in, killed_nothing_in}
use Rattle.chunk_catalog.proofs.TreeLaws.{killed_over, counted_over, hull_over, few_over_all}
use Rattle.chunk_catalog.proofs.trees.Tree.+kill.Goals as goal

pub returns-then-is_spared-clause-after : goal.returns-then-is_spared-clause-after
returns-then-is_spared-clause-after t c =
    let none = c.is_spared.ensures.spared c.if-is_spared.true c.args.tests.now in
    ap (λ v. v.0) (c.unchanged_tree.ensures.tree ∙ c.in_ok-copy.ensures.same) ∙ sym (killed_nothing_in c.args.reach c.args.pos c.args.tests.now c.args.self.now.0 (ap length none))

pub after_kills-requires : goal.after_kills-requires
after_kills-requires t c =
    let r = c.args.reach in
    let p = c.args.pos in
    let tests = c.args.tests.now in
    let l = c.in-Fork.left.value in
    let here = placed_in c.in-Fork.chunk in
    let e = c.in-Fork.right.value in
    let whole : c.args.self.now.0 ≡ l.0 ++ here ++ e.0 = ap (λ d. d.0) (sym c.self.view_is) ∙ ap (λ n. (tree_view n).0) c.in-Fork.is in
    let over : IsOver l c.in-Fork.chunk e _ _ _ = subst IsTree c.in-Fork.is c.self.invariant in
    let first = c.in_ok-first-in-Fork.first in
    let middle = c.in_ok-middle-in-Fork.middle in
    let second = c.in_ok-second-in-Fork.second in
    let first_after : first.tree.0 ≡ map (after_kill_in r p tests) l.0 = c.in_ok-first-in-Fork.ensures.after ∙ ap (λ v. map (after_kill_in r p tests) v.0) c.deref.ensures in
    let second_after : second.tree.0 ≡ map (after_kill_in r p tests) e.0 = c.in_ok-second-in-Fork.ensures.after ∙ ap (λ v. map (after_kill_in r p tests) v.0) c.deref-in-Fork.ensures in
    let first_removed : first.removed ≡ length (taken_at p tests (versions_in r l.0)) = c.in_ok-first-in-Fork.ensures.removed ∙ ap (λ v. length (taken_at p tests (versions_in r v.0))) c.deref.ensures in
    let second_removed : second.removed ≡ length (taken_at p tests (versions_in r e.0)) = c.in_ok-second-in-Fork.ensures.removed ∙ ap (λ v. length (taken_at p tests (versions_in r v.0))) c.deref-in-Fork.ensures in
    let first_levels : first.tree.1 ≡ l.1 = c.in_ok-first-in-Fork.ensures.levels ∙ ap (λ v. v.1) c.deref.ensures in
    let second_levels : second.tree.1 ≡ e.1 = c.in_ok-second-in-Fork.ensures.levels ∙ ap (λ v. v.1) c.deref-in-Fork.ensures in
    let all = killed_over r p tests l.0 here e.0 c.args.self.now.0 whole first.tree.0 (placed_in middle.chunk) second.tree.0 first_after c.in_ok-middle-in-Fork.ensures.after second_after in
    record {
      first = λ none. kill_nothing_in r p tests l.0 first.tree.0 first.removed first_after first_removed none;
      first_levels = first_levels;
      second = λ none. kill_nothing_in r p tests e.0 second.tree.0 second.removed second_after second_removed none;
      second_levels = second_levels;
      even = subst (λ (n : Levels). AreLevel n second.tree.1) (sym first_levels) (subst (λ (n : Levels). AreLevel l.1 n) (sym second_levels) over.even);
      countable = omega (arith, ap length all, length-map c.args.self.now.0 (after_kill_in r p tests), c.requires.countable);
      few = omega (arith, few_over_all r p tests l.0 here e.0 c.args.self.now.0 whole first.removed middle.removed second.removed first_removed c.in_ok-middle-in-Fork.ensures.removed second_removed, c.requires.countable);
    }

pub returns-in_ok-second-in-Fork : goal.returns-in_ok-second-in-Fork
returns-in_ok-second-in-Fork t c =
    let r = c.args.reach in
    let p = c.args.pos in
    let tests = c.args.tests.now in
    let l = c.in-Fork.left.value in
    let here = placed_in c.in-Fork.chunk in
    let e = c.in-Fork.right.value in
    let whole : c.args.self.now.0 ≡ l.0 ++ here ++ e.0 = ap (λ d. d.0) (sym c.self.view_is) ∙ ap (λ n. (tree_view n).0) c.in-Fork.is in
    let first = c.in_ok-first-in-Fork.first in
    let middle = c.in_ok-middle-in-Fork.middle in
    let second = c.in_ok-second-in-Fork.second in
    let first_after : first.tree.0 ≡ map (after_kill_in r p tests) l.0 = c.in_ok-first-in-Fork.ensures.after ∙ ap (λ v. map (after_kill_in r p tests) v.0) c.deref.ensures in
    let second_after : second.tree.0 ≡ map (after_kill_in r p tests) e.0 = c.in_ok-second-in-Fork.ensures.after ∙ ap (λ v. map (after_kill_in r p tests) v.0) c.deref-in-Fork.ensures in
    let first_removed : first.removed ≡ length (taken_at p tests (versions_in r l.0)) = c.in_ok-first-in-Fork.ensures.removed ∙ ap (λ v. length (taken_at p tests (versions_in r v.0))) c.deref.ensures in
    let second_removed : second.removed ≡ length (taken_at p tests (versions_in r e.0)) = c.in_ok-second-in-Fork.ensures.removed ∙ ap (λ v. length (taken_at p tests (versions_in r v.0))) c.deref-in-Fork.ensures in
    let first_levels : first.tree.1 ≡ l.1 = c.in_ok-first-in-Fork.ensures.levels ∙ ap (λ v. v.1) c.deref.ensures in
    let second_levels : second.tree.1 ≡ e.1 = c.in_ok-second-in-Fork.ensures.levels ∙ ap (λ v. v.1) c.deref-in-Fork.ensures in
    let all = killed_over r p tests l.0 here e.0 c.args.self.now.0 whole first.tree.0 (placed_in middle.chunk) second.tree.0 first_after c.in_ok-middle-in-Fork.ensures.after second_after in
    let first_hull : first.hull ≡ hull_of (taken_at p tests (versions_in r l.0)) = c.in_ok-first-in-Fork.ensures.hull ∙ ap (λ v. hull_of (taken_at p tests (versions_in r v.0))) c.deref.ensures in
    let second_hull : second.hull ≡ hull_of (taken_at p tests (versions_in r e.0)) = c.in_ok-second-in-Fork.ensures.hull ∙ ap (λ v. hull_of (taken_at p tests (versions_in r v.0))) c.deref-in-Fork.ensures in
    let shown : c.args.self.now.1 ≡ levels_over l.1 c.in-Fork.chunk.levels e.1 = ap (λ d. d.1) (sym c.self.view_is) ∙ ap (λ n. (tree_view n).1) c.in-Fork.is in
    let levels : levels_over first.tree.1 middle.chunk.levels second.tree.1 ≡ c.args.self.now.1 =
    ap (λ n. levels_over n middle.chunk.levels second.tree.1) first_levels
    ∙ (ap (λ n. levels_over l.1 n second.tree.1) c.in_ok-middle-in-Fork.ensures.levels
    ∙ (ap (levels_over l.1 c.in-Fork.chunk.levels) second_levels ∙ sym shown)) in
    record {
      after = IfOk-weaker c.after_kills.result _ _ (λ k same. ap (λ v. v.0) same ∙ all) c.after_kills.ensures.tree;
      levels = IfOk-weaker c.after_kills.result _ _ (λ k same. ap (λ v. v.1) same ∙ levels) c.after_kills.ensures.tree;
      removed = IfOk-weaker c.after_kills.result _ _ (λ k same. same ∙ counted_over r p tests l.0 here e.0 c.args.self.now.0 whole first.removed middle.removed second.removed first_removed c.in_ok-middle-in-Fork.ensures.removed second_removed) c.after_kills.ensures.removed;
      hull = IfOk-weaker c.after_kills.result _ _ (λ k same. same ∙ hull_over r p tests l.0 here e.0 c.args.self.now.0 whole first.hull middle.hull second.hull first_hull c.in_ok-middle-in-Fork.ensures.hull second_hull) c.after_kills.ensures.hull;
    }
