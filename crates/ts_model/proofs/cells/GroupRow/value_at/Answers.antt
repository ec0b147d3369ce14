-- After the start of the bucket come the keys.
use Rattle.std.proofs.Common.{◌∙◌, ◌<◌, ◌≤◌, length, sym, arith}
use Rattle.ts_num.specs.declared.values.Datum.TheVariants.{Int}
use Rattle.ts_model.specs.Groups.{shown_each}
use Rattle.ts_model.proofs.ResultLaws.{value_of_key}
use Rattle.ts_model.proofs.cells.GroupRow.value_at.Goals as goal

pub returns-then-place-self : goal.returns-then-place-self
returns-then-place-self c =
    let row = c.args.self.now in
    let others = shown_each row.aggs.now row.parts.now in
    let some : 0 < c.args.place = omega arith in
    let within : c.args.place ≤ length row.keys.now = omega arith in
    c.number.ensures ∙ sym (value_of_key (Int row.start) row.keys.now others c.args.place _ some within)
