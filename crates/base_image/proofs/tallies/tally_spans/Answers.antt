use Rattle.std.proofs.Common.{◌≡◌, ◌++◌, List, take, ap, ◌∙◌}
use Rattle.ts_schema.specs.declared.rows.Row.{Row}
use Rattle.base_image.specs.Outlines.{rows_in, span_rows, tally_of}
use Rattle.base_image.proofs.OutlineLaws.{more_made}
use Rattle.base_image.proofs.tallies.tally_spans.Goals as goal

pub loop-span-preserved : goal.loop-span-preserved
loop-span-preserved g c =
    let held : List Row = g.I.Imaged.held c.args.of.now c.args.table in
    let so_far : List Row = span_rows held (take c.loop-span.span-index c.args.spans.now) in
    c.with_more-tally.ensures so_far c.loop-span.invariant
    ∙ ap (λ more. tally_of (so_far ++ more)) (c.items.ensures.items ∙ c.in_ok-rows.ensures.rows)
    ∙ ap tally_of (more_made (λ s. rows_in s held) c.args.spans.now c.loop-span.span-index c.span-item.result c.loop-span-test.true c.span-item.is)
