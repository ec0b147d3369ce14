use Rattle.std.proofs.Common.{◌≡◌, ◌+◌, ◌++◌, ◌∙◌, ap, sym}
use mir.Val.{to_z, of_z}
use Rattle.std.specs.Int.{w64}
use Rattle.std.specs.List.{count_by}
use Rattle.seg_rows.specs.Versions.{HasMore}
use Rattle.chunk_catalog.specs.Places.{in_chunk, placed_in}
use Rattle.chunk_catalog.specs.Trees.{tree_view}
use Rattle.chunk_catalog.proofs.LevelLaws.{countable_left, countable_right}
use Rattle.chunk_catalog.proofs.trees.Tree.+with.Goals as goal

pub balance-requires-clause-countable : goal.balance-requires-clause-countable
balance-requires-clause-countable t c =
    let l = c.in-Fork.left.value.0 in
    let r = c.in-Fork.right.value.0 in
    let start = to_z w64 (of_z w64 c.args.start) in
    let shown : c.args.self.now.0 ≡ l ++ placed_in c.in-Fork.chunk ++ r = ap (λ d. d.0) (sym c.self.view_is) ∙ ap (λ n. (tree_view n).0) c.in-Fork.is in
    let more : HasMore (in_chunk start c.args.segment) l c.in_ok-left-in-Fork-2.left.value.0 =
    λ test. ap (λ v. count_by test v.0) c.in_ok-left-in-Fork-2.ensures.ok ∙ (c.in_ok-left-in-Fork.ensures.versions test ∙ ap (λ v. count_by test v.0 + count_by test (in_chunk start c.args.segment)) c.deref.ensures) in
    countable_left c.args.self.now.0 l r c.in_ok-left-in-Fork-2.left.value.0 c.in-Fork.chunk start c.args.segment shown c.requires.countable more

pub balance-requires-then-here-start-clause-countable : goal.balance-requires-then-here-start-clause-countable
balance-requires-then-here-start-clause-countable t c =
    let l = c.in-Fork.left.value.0 in
    let r = c.in-Fork.right.value.0 in
    let start = to_z w64 (of_z w64 c.args.start) in
    let shown : c.args.self.now.0 ≡ l ++ placed_in c.in-Fork.chunk ++ r = ap (λ d. d.0) (sym c.self.view_is) ∙ ap (λ n. (tree_view n).0) c.in-Fork.is in
    let more : HasMore (in_chunk start c.args.segment) r c.in_ok-right-in-Fork-2.right.value.0 =
    λ test. ap (λ v. count_by test v.0) c.in_ok-right-in-Fork-2.ensures.ok ∙ (c.in_ok-right-in-Fork.ensures.versions test ∙ ap (λ v. count_by test v.0 + count_by test (in_chunk start c.args.segment)) c.deref-then-here-start.ensures) in
    countable_right c.args.self.now.0 l r c.in_ok-right-in-Fork-2.right.value.0 c.in-Fork.chunk start c.args.segment shown c.requires.countable more
