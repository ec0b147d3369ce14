use Rattle.std.proofs.Common.{◌≡◌, ◌<◌, ◌^◌, [], length, map, sym, ap, ◌∙◌, arith}
use Rattle.cell_groups.specs.Cells.{cells_pass}
use Rattle.cell_groups.specs.Groups.{rows_shown}
use Rattle.cell_groups.specs.TakenRows.{with_rows}
use Rattle.cell_groups.specs.declared.stops.Stop.TheVariants.{NoMemory, TooGreat}
use Rattle.cal_bucket.specs.Shapes.{named_group, shape_of, test_among}
use Rattle.cal_bucket.proofs.ShapeLaws.{gathered_by_name}
use Rattle.cal_bucket.proofs.answers.answer_rows.Goals as goal

pub returns-in-Ok : goal.returns-in-Ok
returns-in-Ok c =
    let plan = c.args.plan.now in
    let lower = c.args.lower.now in
    let shape = c.in_ok-shape.shape in
    let own = shape_of plan.at plan.fold in
    let tests : c.as_slice.result.now ≡ map (test_among plan.at) plan.fold.tests =
    c.as_slice.ensures.value ∙ c.in_ok-tests.ensures ∙ ap (map (test_among plan.at)) c.items.ensures.items in
    c.of_cells.ensures.rows ∙ c.in-Ok.ensures.rows ∙ ap (rows_shown shape) c.in_ok-gathered.ensures.groups
    ∙ ap (λ s. rows_shown s (with_rows (cells_pass c.as_slice.result.now) (named_group plan s) lower [])) c.in_ok-shape.ensures
    ∙ ap (λ ts. rows_shown own (with_rows (cells_pass ts) (named_group plan own) lower [])) tests
    ∙ gathered_by_name plan lower c.requires.shown

-- for the rows of an answer, which are fewer than 2^64, no number is too large
pub unreachable-requires : goal.unreachable-requires
unreachable-requires c =
    let few : length c.args.lower.now < 2 ^ 64 = omega (arith, c.len-rows.ensures.len) in
    let alone : TooGreat ≡ NoMemory = sym c.in-Err-TooGreat.field-0-is ∙ c.in-Err-TooGreat.ensures.room (length c.args.lower.now) c.in_ok-gathered.ensures.few few in
    cc alone
