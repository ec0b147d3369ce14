use Rattle.std.proofs.Common.{◌≡◌, take}
use Rattle.base_image.specs.Outlines.{span_rows, tally_of}
use Rattle.base_image.proofs.tallies.tally_spans.Given as goal

abbrev pub invariant-loop-span : goal.invariant-loop-span
invariant-loop-span g l = l.tally ≡ tally_of (span_rows (g.I.Imaged.held l.of l.table) (take l.span-index l.spans))
