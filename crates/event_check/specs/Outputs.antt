-- The outputs of an aggregate.
use Rattle.std.specs.Prelude.{Bool, ◌&&◌, nat_lt, nat_le, ◌==◌, length}
use Rattle.ts_model.specs.declared.views.ViewDef.{ViewDef}
use Rattle.ts_model.specs.Limits.{most_columns}
use Rattle.ts_model.specs.Sound.{output_count, are_names}

-- at least one function, at most 16 output columns, and as many different names
abbrev pub outputs_fit : ViewDef → Bool
outputs_fit def =
    nat_lt 0 (length def.fold.aggs) && nat_le (output_count def.fold) most_columns
    && length def.names == output_count def.fold && are_names def.names
