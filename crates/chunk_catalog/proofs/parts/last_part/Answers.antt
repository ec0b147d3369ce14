-- The last rows are in one chunk.
use Rattle.std.proofs.Common.{◌≡◌, ◌-◌, ◌++◌, ℤ, length, take, drop, sym, ap, ◌∙◌, subst}
use Rattle.std.specs.Prelude.{FitsSigned}
use Rattle.std.specs.Int.{w64}
use Rattle.std.proofs.lemmas.Int.{to_z-of_z}
use mir.Val.{to_z, of_z}
use Rattle.std.proofs.lemmas.List.{take_rest}
use Rattle.chunk_catalog.specs.Parts.{AreIn}
use Rattle.chunk_catalog.proofs.PartLaws.{two_parts}
use Rattle.chunk_catalog.proofs.parts.last_part.Goals as goal

pub returns-clause-split : goal.returns-clause-split
returns-clause-split c =
    let rows = c.args.rows.now in
    let from = c.part_begin-from.result in
    let last : take (length rows - from) (drop from rows) ≡ c.in_ok-part_of.field-0 = ap (λ n. take (n - from) (drop from rows)) (sym c.len.ensures.len) ∙ sym c.in_ok-part_of.ensures.items in
    two_parts rows from
    ∙ ap (λ rs. rs ++ take (length rows - from) (drop from rows)) (sym c.in_ok-rows.ensures.items)
    ∙ ap (λ rs. c.in_ok-rows.field-0 ++ rs) last

pub returns-clause-here : goal.returns-clause-here
returns-clause-here c =
    let rows = c.args.rows.now in
    let from = c.part_begin-from.result in
    let start = to_z w64 (of_z w64 c.chunk_of-start.result) in
    let fits : FitsSigned w64 c.args.interval = c.ranges.interval in
    let interval_is : to_z w64 (of_z w64 c.args.interval) ≡ c.args.interval = to_z-of_z w64 c.args.interval fits in
    let same : drop from c.items-items.result.now ≡ c.in_ok-part_of.field-0 =
    ap (drop from) c.items-items.ensures.items ∙ sym (take_rest rows from)
    ∙ ap (λ n. take (n - from) (drop from rows)) (sym c.len.ensures.len)
    ∙ sym c.in_ok-part_of.ensures.items in
    subst (AreIn c.args.interval start) same (subst (λ (i : ℤ). AreIn i start (drop from c.items-items.result.now)) interval_is c.part_begin-from.ensures.here)
