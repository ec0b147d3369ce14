-- The fields of a journal: counts and numbers of one byte and of four.
use Rattle.std.specs.Prelude.{ℕ, Bool, true, ◌&&◌, ◌^◌, nat_lt, List, length}
use Rattle.std.specs.List.{list_all}
use Rattle.ts_schema.specs.declared.conditions.Test.{Test}
use Rattle.ts_model.specs.declared.events.Event.{Event}
use Rattle.ts_model.specs.declared.events.Event.TheVariants.{Table, Hyper, View, Mode, Commit, Cut, Built}
use Rattle.ts_model.specs.declared.events.Op.{Op}
use Rattle.ts_model.specs.declared.events.Op.TheVariants.{Insert, Delete}
use Rattle.ts_model.specs.declared.views.Fold.{Fold}

-- a number that fits one byte, and one that fits four
abbrev pub fits_byte : ℕ → Bool
fits_byte n = nat_lt n (2 ^ 8)

abbrev pub fits_four : ℕ → Bool
fits_four n = nat_lt n (2 ^ 32)

-- a name with its length in one byte
abbrev pub name_fits_fields : List ℕ → Bool
name_fits_fields name = fits_byte (length name)

-- at most 2 ^ 32 - 1 tests, each with its column in four bytes
abbrev pub tests_fit_fields : List Test → Bool
tests_fit_fields tests = fits_four (length tests) && list_all (λ t. fits_four t.col) tests

abbrev pub fold_fits_fields : Fold → Bool
fold_fits_fields fold =
    fits_byte (length fold.keys) && list_all fits_four fold.keys && fits_byte (length fold.aggs)
    && list_all (λ agg. fits_four agg.col) fold.aggs && tests_fit_fields fold.tests

abbrev pub op_fits_fields : Op → Bool
op_fits_fields (Insert t new) =
    fits_four t && fits_four (length new) && list_all (λ row. fits_byte (length row.vals)) new
op_fits_fields (Delete t tests) = fits_four t && tests_fit_fields tests

-- each count and each number of an event fits its field. The numbers of a finish are positions
abbrev pub fits_fields : Event → Bool
fits_fields (Table def) =
    name_fits_fields def.name && fits_byte (length def.cols) && list_all (λ c. name_fits_fields c.name) def.cols
fits_fields (Hyper t hyper) = fits_four t && fits_four hyper.at
fits_fields (View def) =
    name_fits_fields def.name && fits_four def.table && fold_fits_fields def.fold && fits_byte (length def.names)
    && list_all name_fits_fields def.names
fits_fields (Mode v only) = fits_four v
fits_fields (Commit ops) = fits_four (length ops) && list_all op_fits_fields ops
fits_fields (Cut v span) = fits_four v
fits_fields (Built cut snap) = true
