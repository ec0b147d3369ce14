use Rattle.std.proofs.Common.{◌≡◌, ◌+◌, ◌++◌, ◌∙◌, [], ℤ, length, map, refl, sym, ap, subst, arith}
use Rattle.std.specs.List.{count_by, list_all}
use Rattle.std.specs.Prelude.{FitsSigned}
use Rattle.std.specs.Int.{w64}
use Rattle.std.proofs.lemmas.Int.{to_z-of_z}
use mir.Val.{to_z, of_z}
use Rattle.std.proofs.lemmas.List.{length-append, length-map, nil_from_length}
use Rattle.std.proofs.lemmas.List.Folds.{list_all-append}
use Rattle.ts_bucket.specs.Bucket.{is_time}
use Rattle.seg_rows.specs.Versions.{newborn}
use Rattle.chunk_catalog.specs.Chunks.{HaveTimes}
use Rattle.chunk_catalog.specs.Places.{place, in_chunk}
use Rattle.chunk_catalog.specs.Parts.{placed_rows}
use Rattle.chunk_catalog.proofs.PartLaws.{times_kept, length_kept, placed_kept, part_step, length_more}
use Rattle.chunk_catalog.proofs.parts.put_rows.Goals as goal
use Rattle.ts_schema.proofs.Cases.{and_first}

pub loop-alloc-init : goal.loop-alloc-init
loop-alloc-init c = record {
  times = times_kept c.in_ok-left.left c.args.rows c.in_ok-left.ensures.rows c.requires.times;
  countable = omega (arith, length_kept c.in_ok-left.left c.args.rows c.in_ok-left.ensures.rows, ap (λ t. length t.0) c.in_ok-tree.ensures.same, c.requires.countable);
  versions = λ test. refl;
}

pub loop-alloc-preserved : goal.loop-alloc-preserved
loop-alloc-preserved c =
    let all : HaveTimes (c.last_part.new.rows ++ c.in_ok-part.part.rows) = subst HaveTimes c.in_ok-part.ensures.split c.loop-alloc.invariant.times in
    let more = length_more c.in_ok-tree-2.tree.0 c.loop-alloc.tree.0 (in_chunk c.in_ok-part.part.start (map (newborn c.args.pos) c.in_ok-part.part.rows)) c.in_ok-tree-2.ensures.versions in
    let placed : length (in_chunk c.in_ok-part.part.start (map (newborn c.args.pos) c.in_ok-part.part.rows)) ≡ length c.in_ok-part.part.rows =
    length-map (map (newborn c.args.pos) c.in_ok-part.part.rows) (place c.in_ok-part.part.start) ∙ length-map c.in_ok-part.part.rows (newborn c.args.pos) in
    let split : length c.loop-alloc.left ≡ length c.last_part.new.rows + length c.in_ok-part.part.rows =
    ap length c.in_ok-part.ensures.split ∙ length-append c.last_part.new.rows c.in_ok-part.part.rows in
    record {
      times = and_first (list_all (λ row. is_time row.at) c.last_part.new.rows) (list_all (λ row. is_time row.at) c.in_ok-part.part.rows)
          (sym (list_all-append (λ row. is_time row.at) c.last_part.new.rows c.in_ok-part.part.rows) ∙ all);
      countable = omega (arith, more, placed, split, c.loop-alloc.invariant.countable);
      versions = λ test.
          part_step (to_z w64 (of_z w64 c.args.interval)) c.in_ok-part.part.start c.args.pos c.loop-alloc.tree.0 c.in_ok-tree-2.tree.0 c.loop-alloc.left c.last_part.new.rows c.in_ok-part.part.rows
          c.in_ok-part.ensures.split c.in_ok-part.ensures.here c.in_ok-tree-2.ensures.versions test
          ∙ c.loop-alloc.invariant.versions test;
    }

pub returns : goal.returns
returns c =
    let fits : FitsSigned w64 c.args.interval = c.ranges.interval in
    let interval_is : to_z w64 (of_z w64 c.args.interval) ≡ c.args.interval = to_z-of_z w64 c.args.interval fits in
    let empty : length c.loop-alloc.left ≡ 0 = omega (arith, c.len.ensures.len, c.loop-alloc-test.false) in
    let none : c.loop-alloc.left ≡ [] = nil_from_length c.loop-alloc.left empty in
    record {
      versions = λ test.
          let kept : count_by test c.loop-alloc.tree.0 + count_by test (placed_rows c.args.interval c.args.pos c.loop-alloc.left) ≡ count_by test c.in_ok-tree.tree.0 + count_by test (placed_rows c.args.interval c.args.pos c.in_ok-left.left) =
          subst (λ (i : ℤ). count_by test c.loop-alloc.tree.0 + count_by test (placed_rows i c.args.pos c.loop-alloc.left) ≡ count_by test c.in_ok-tree.tree.0 + count_by test (placed_rows i c.args.pos c.in_ok-left.left)) interval_is (c.loop-alloc.invariant.versions test) in
          let zero : count_by test (placed_rows c.args.interval c.args.pos c.loop-alloc.left) ≡ 0 = ap (λ rows. count_by test (placed_rows c.args.interval c.args.pos rows)) none in
          let same : count_by test c.in_ok-tree.tree.0 ≡ count_by test c.args.tree.now.0 = ap (λ t. count_by test t.0) c.in_ok-tree.ensures.same in
          omega (arith, kept, zero, same, placed_kept c.args.interval c.args.pos c.in_ok-left.left c.args.rows c.in_ok-left.ensures.rows test);
    }
