-- Once one of the two lists has ended, all rows are built. Until then one more row is built.
use Rattle.std.proofs.Common.{◌≡◌, [], ◌∷◌, ◌++◌, drop, List, inl, inr, sym, ap, ◌∙◌, arith, rules}
use Rattle.std.specs.Prelude.{FitsSigned}
use Rattle.std.specs.Int.{w64}
use Rattle.std.proofs.lemmas.Int.{to_z-of_z}
use Rattle.std.proofs.lemmas.List.{append-nil}
use Rattle.std.specs.Arc.{arc_value}
use Rattle.ts_schema.specs.declared.rows.Row.{Row}
use Rattle.cell_rows.specs.Parts.{parts}
use Rattle.cell_rows.proofs.PartLaws.{length_parts}
use Rattle.event_codec.specs.Blocks.{timed_rows}
use Rattle.event_codec.proofs.BlockLaws.{no_time, no_values, row_made}
use Rattle.event_codec.proofs.blocks.push_rows.Goals as goal

pub returns : goal.returns
returns c =
    let a = c.loop-at.at-iterator.a.rest.now in
    let b = c.loop-at.at-iterator.b.rest.now in
    let left = drop c.loop-at.from (arc_value c.in_ok-block.block) in
    let none : timed_rows a (parts c.loop-at.from b left) ≡ [] = elim c.in-None.ensures.steps as (λ _. timed_rows a (parts c.loop-at.from b left) ≡ []) [
      | inl x ↦ no_time a (parts c.loop-at.from b left) x.1.0
      | inr x ↦ no_values a (parts c.loop-at.from b left) (omega (arith, length_parts c.loop-at.from b left, x.1.0))
    ] in
    sym (append-nil c.loop-at.into.items) ∙ ap (λ (rows : List Row). c.loop-at.into.items ++ rows) (sym none) ∙ c.loop-at.invariant.2

pub loop-at-preserved : goal.loop-at-preserved
loop-at-preserved c =
    let all = arc_value c.in_ok-block.block in
    let total = c.args.into.now.items ++ timed_rows c.args.times.now (parts 0 c.args.ends.now c.args.values) in
    let fits : FitsSigned w64 c.in-Some.at.now = search rules in
    let row : Row = record { at = c.in-Some.at.now; vals = c.in_ok-vals.vals } in
    let put : c.push.new.self.items ≡ c.loop-at.into.items ++ row ∷ [] = simp to_z-of_z at c.in_ok-push.ensures.items in
    row_made c.loop-at.at-iterator.a.rest.now c.next.new.self.a.rest.now c.loop-at.at-iterator.b.rest.now c.next.new.self.b.rest.now all c.in_ok-vals.vals c.loop-at.into.items c.push.new.self.items total c.in-Some.at.now c.loop-at.from c.in-Some.end.now
    c.in-Some.ensures.steps.0 c.in-Some.ensures.steps.1 c.loop-at.invariant.0 c.loop-at.invariant.1 c.loop-at.invariant.2 c.in_ok-vals.ensures.items put
