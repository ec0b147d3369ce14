-- A row more is a part more.
use Rattle.std.proofs.Common.{◌≡◌, ◌+◌, [], ◌∷◌, ◌++◌, length, sym, ap, ◌∙◌, subst, arith}
use Rattle.cell_rows.specs.Parts.{AreParts, parts}
use Rattle.cell_rows.proofs.PartLaws.{are_parts_pushed, parts_pushed}
use Rattle.cell_rows.proofs.rows.CellRows.push.Goals as goal

pub invariant_of-self-2 : goal.invariant_of-self-2
invariant_of-self-2 g c =
    let old = c.self.inside in
    let cells : c.extend_from_slice.new.self.items ≡ old.cells.items ++ c.args.row.now = c.in_ok-extend_from_slice.ensures.items in
    let last : (length c.as_slice.result.now) ≡ 0 + length (old.cells.items ++ c.args.row.now) =
    (let same : (length c.as_slice.result.now) ≡ length (old.cells.items ++ c.args.row.now) = ap length (c.as_slice.ensures.value ∙ cells) in omega arith) in
    let ends : c.push_reserved.new.self.items ≡ old.ends.items ++ (length c.as_slice.result.now) ∷ [] = c.push_reserved.ensures.items ∙ ap (λ es. es ++ (length c.as_slice.result.now) ∷ []) c.in_ok-reserve.ensures.items in
    subst (λ es. AreParts 0 es c.extend_from_slice.new.self.items) (sym ends)
    (subst (AreParts 0 (old.ends.items ++ (length c.as_slice.result.now) ∷ [])) (sym cells)
    (are_parts_pushed 0 (length c.as_slice.result.now) old.ends.items old.cells.items c.args.row.now c.self.invariant last))

pub returns-clause-pushed : goal.returns-clause-pushed
returns-clause-pushed g c =
    let old = c.self.inside in
    let cells : c.extend_from_slice.new.self.items ≡ old.cells.items ++ c.args.row.now = c.in_ok-extend_from_slice.ensures.items in
    let last : (length c.as_slice.result.now) ≡ 0 + length (old.cells.items ++ c.args.row.now) =
    (let same : (length c.as_slice.result.now) ≡ length (old.cells.items ++ c.args.row.now) = ap length (c.as_slice.ensures.value ∙ cells) in omega arith) in
    let ends : c.push_reserved.new.self.items ≡ old.ends.items ++ (length c.as_slice.result.now) ∷ [] = c.push_reserved.ensures.items ∙ ap (λ es. es ++ (length c.as_slice.result.now) ∷ []) c.in_ok-reserve.ensures.items in
    ap (λ es. parts 0 es c.extend_from_slice.new.self.items) ends
    ∙ ap (parts 0 (old.ends.items ++ (length c.as_slice.result.now) ∷ [])) cells
    ∙ parts_pushed 0 (length c.as_slice.result.now) old.ends.items old.cells.items c.args.row.now c.self.invariant last
    ∙ ap (λ rows. rows ++ c.args.row.now ∷ []) c.self.view_is
