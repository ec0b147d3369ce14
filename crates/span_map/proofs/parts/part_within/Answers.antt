-- The edges between the ends of the span are those that the two searches leave.
use Rattle.std.proofs.Common.{sym, subst}
use Rattle.span_map.specs.Edges.{IsRising}
use Rattle.span_map.proofs.PieceLaws.{rising-drop}
use Rattle.span_map.proofs.parts.part_within.Goals as goal

pub places_below-requires : goal.places_below-requires
places_below-requires c = subst IsRising (sym c.split_at.ensures.back) (rising-drop _ _ c.requires)
