use Rattle.std.proofs.Common.{◌≡◌, [], ◌∷◌, ◌++◌, Some, ap, ◌∙◌}
use Rattle.std.specs.Prelude.{FitsSigned}
use Rattle.std.specs.Int.{w64}
use Rattle.std.proofs.lemmas.Int.{to_z-of_z}
use Rattle.ts_schema.specs.Values.{marked_values}
use Rattle.ts_schema.proofs.ValueLaws.{number_pushed}
use Rattle.ts_schema.proofs.values.ValueBlock.push_number.Goals as goal

pub returns-clause-pushed : goal.returns-clause-pushed
returns-clause-pushed c =
    let nulls = c.self.inside.nulls.items in
    let numbers = c.self.inside.numbers.items in
    let fits : FitsSigned w64 c.args.number = c.ranges.number in
    let put : c.push.new.self.items ≡ numbers ++ c.args.number ∷ [] = simp to_z-of_z at c.in_ok-push.ensures.items in
    ap (marked_values nulls) put
    ∙ number_pushed nulls numbers c.args.number c.self.invariant
    ∙ ap (λ values. values ++ Some c.args.number ∷ []) c.self.view_is
