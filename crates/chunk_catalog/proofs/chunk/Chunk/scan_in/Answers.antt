use Rattle.std.proofs.Common.{◌≡◌, ◌∙◌, true, length, ap, sym, subst, rules}
use Rattle.std.specs.Prelude.{FitsSigned}
use Rattle.std.specs.Int.{w64}
use Rattle.std.proofs.lemmas.Int.{to_z-of_z}
use Rattle.std.proofs.lemmas.Result.{on_err_weaker}
use Rattle.ts_schema.specs.Counts.{RaisedUpTo}
use Rattle.chunk_catalog.specs.Places.{in_chunk, versions_in}
use Rattle.chunk_catalog.specs.Reach.{in_reach}
use Rattle.chunk_catalog.proofs.PlaceLaws.{reached_in}
use Rattle.chunk_catalog.proofs.chunk.Chunk.scan_in.Goals as goal

pub returns-then-holds-clause-at_most : goal.returns-then-holds-clause-at_most
returns-then-holds-clause-at_most g c =
    let fits : FitsSigned w64 c.self.inside.start = search rules in
    let start_is : c.self.inside.start ≡ c.args.self.now.start = ap (λ k. k.start) c.self.view_is in
    let held : c.holds.result ≡ in_reach c.args.reach c.self.inside.start = simp to_z-of_z at c.holds.ensures.holds in
    let inside : in_reach c.args.reach c.args.self.now.start ≡ true = ap (in_reach c.args.reach) (sym start_is) ∙ (sym held ∙ c.if-holds.true) in
    let same : length c.args.self.now.versions ≡ length (versions_in c.args.reach (in_chunk c.args.self.now.start c.args.self.now.versions)) =
    ap length (sym (reached_in c.args.reach c.args.self.now.start c.args.self.now.versions inside)) in
    on_err_weaker c.scan.result (subst (λ n. RaisedUpTo n c.args.steps.now c.scan.new.steps) same) c.scan.ensures.at_most
