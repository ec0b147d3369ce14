use Rattle.std.proofs.Common.{ℕ, ℤ, ◌++◌, List, ap, sym, ◌∙◌}
use Rattle.std.specs.Int.{to_le_bytes}
use Rattle.std.proofs.lemmas.Int.{to_z-of_z}
use mir.Syntax.{w128}
use mir.Val.{of_z}
use Rattle.base_image.proofs.Writable.{wide_is}
use Rattle.base_image.proofs.groups.put_wide.Goals as goal

pub returns-clause-put : goal.returns-clause-put
returns-clause-put c =
    c.in_ok-extend_from_slice.ensures.items
    ∙ ap (λ (l : List ℕ). c.args.out.now.items ++ l) (c.to_le_bytes.ensures ∙ ap (λ (z : ℤ). to_le_bytes w128 (of_z w128 z)) (to_z-of_z w128 c.args.number c.ranges.number) ∙ sym (wide_is c.args.number))
