-- One more piece of rows.
use Rattle.std.proofs.Common.{◌+◌, ◌-◌, ◌≤◌, ◌++◌, length, map, take, drop, sym, ap, ◌∙◌, subst, arith}
use Rattle.seg_rows.specs.Versions.{AsOften, newborn}
use Rattle.chunk_catalog.specs.Chunks.{ChunksValue, HaveTimes}
use Rattle.chunk_catalog.proofs.PartLaws.{all_put, nothing_put, piece_more, times_of_part}
use Rattle.chunk_catalog.proofs.catalog.Chunks.put_shared.Goals as goal

pub pieces-init : goal.pieces-init
pieces-init c = record {
  interval = ap (λ (x : ChunksValue). x.interval) c.in_ok-chunks.ensures.same;
  within = omega arith;
  put = nothing_put c.args.pos c.args.self.now.versions c.in_ok-chunks.chunks.versions c.args.rows.now (ap (λ (x : ChunksValue). x.versions) c.in_ok-chunks.ensures.same);
}

pub put-requires : goal.put-requires
put-requires c = record { times = subst HaveTimes (sym c.in_ok-part_of.ensures.items) (times_of_part c.args.rows.now c.pieces.from (c.pieces.from + c.min.result) c.requires.times) }

pub pieces-preserved : goal.pieces-preserved
pieces-preserved c =
    let before = c.args.self.now.versions in
    let rows = c.args.rows.now in
    let from = c.pieces.from in
    let to = from + c.min.result in
    let put : AsOften c.in_ok-chunks-2.chunks.versions (c.pieces.chunks.versions ++ map (newborn c.args.pos) (take (to - from) (drop from rows))) =
    subst (λ piece. AsOften c.in_ok-chunks-2.chunks.versions (c.pieces.chunks.versions ++ map (newborn c.args.pos) piece)) c.in_ok-part_of.ensures.items c.in_ok-chunks-2.ensures.versions in
    record {
      interval = c.in_ok-chunks-2.ensures.interval ∙ c.pieces.invariant.interval;
      within = omega (arith, c.min.ensures, c.len.ensures.len, c.len-in-pieces.ensures.len, c.pieces.invariant.within);
      put = piece_more c.args.pos before c.pieces.chunks.versions c.in_ok-chunks-2.chunks.versions rows from to (omega arith) c.pieces.invariant.put put;
    }

pub returns : goal.returns
returns c =
    let whole : length c.args.rows.now ≤ c.pieces.from = omega (arith, c.len.ensures.len, c.pieces-test.false) in
    record {
      interval = c.pieces.invariant.interval;
      versions = all_put c.args.pos c.args.self.now.versions c.pieces.chunks.versions c.args.rows.now c.pieces.from whole c.pieces.invariant.put;
    }
