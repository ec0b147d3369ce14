use Rattle.std.proofs.Common.{◌≡◌, ap, sym, rules}
use Rattle.std.specs.Prelude.{FitsSigned}
use Rattle.std.specs.Int.{w64}
use Rattle.std.proofs.lemmas.Int.{to_z-of_z}
use Rattle.chunk_catalog.proofs.PlaceLaws.{past_chunk}
use Rattle.chunk_catalog.proofs.chunk.Chunk.last_of.Goals as goal

pub returns-then-is_past : goal.returns-then-is_past
returns-then-is_past c =
    let fits_interval : FitsSigned w64 c.args.interval = c.ranges.interval in
    let fits_start : FitsSigned w64 c.self.inside.start = search rules in
    let start_is : c.self.inside.start ≡ c.args.self.now.start = ap (λ k. k.start) c.self.view_is in
    record {
      last = sym (past_chunk c.args.interval c.args.best c.args.self.now.start c.args.self.now.versions c.requires.interval
          (rw (← start_is) (simp to_z-of_z at (c.is_past.ensures.past c.if-is_past.true))) c.requires.placed c.args.pos);
    }
