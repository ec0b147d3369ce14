-- Laws of positions.
use Rattle.std.proofs.Common.{refl}
use Rattle.ts_model.specs.PositionLaws.{PositionsCount, AtPositions}
use Rattle.ts_model.proofs.HistoryLaws.{root_followed, position_is, root_begins, prefix_stays}
use Rattle.ts_model.proofs.GroupLaws.{groups_at_is, scratch_at_is}

pub positions_count : PositionsCount
positions_count = record { followed = root_followed; counted = position_is; kept = λ g h q. root_begins q }

pub at_positions : AtPositions
at_positions = record {
  rows = λ t h s. refl;
  groups = groups_at_is;
  cells = scratch_at_is;
  tops = λ def h s span. refl;
  touches = λ n def h s b. refl;
  prefixes = λ g h s q l. prefix_stays s q l;
}
