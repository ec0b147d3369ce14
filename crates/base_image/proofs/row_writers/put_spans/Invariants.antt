use Rattle.std.proofs.Common.{◌≡◌, ◌++◌, take}
use Rattle.std.specs.List.{flat_map}
use Rattle.event_codec.specs.Spelling.{row}
use Rattle.base_image.specs.Outlines.{span_rows}
use Rattle.base_image.proofs.row_writers.put_spans.Given as goal

abbrev pub invariant-loop-span : goal.invariant-loop-span
invariant-loop-span g l =
    l.out.items ≡ l.fn.out.items ++ flat_map row (span_rows (g.I.Imaged.held l.of l.table) (take l.span-index l.spans))
