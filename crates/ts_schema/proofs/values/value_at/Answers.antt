use Rattle.std.proofs.Common.{◌≡◌, ap, sym, ◌∙◌, pos, rules}
use Rattle.std.specs.Prelude.{FitsSigned, slice_index_or}
use Rattle.std.specs.Int.{w64}
use Rattle.std.proofs.lemmas.Int.{to_z-of_z}
use Rattle.ts_schema.specs.Values.{unless_marked}
use Rattle.ts_schema.proofs.ValueLaws.{marked_at}
use Rattle.ts_schema.proofs.values.value_at.Goals as goal

pub returns : goal.returns
returns c =
    let number = slice_index_or c.args.numbers.now c.args.i (pos 0) in
    let fits : FitsSigned w64 number = search rules in
    let value : c.unless_marked.result ≡ unless_marked c.is_marked.result number = simp to_z-of_z at c.unless_marked.ensures in
    value ∙ ap (λ mark. unless_marked mark number) c.is_marked.ensures ∙ sym (marked_at c.args.nulls.now c.args.numbers.now c.args.i (pos 0) c.requires)
