-- The rows of an image, commit by commit.
use Rattle.std.specs.Prelude.{ℕ, zero, suc, Bool, false, ◌&&◌, nat_le, [], ◌∷◌}
use Rattle.std.specs.List.{list_all}
use Rattle.ts_bucket.specs.Bucket.{is_time}
use Rattle.ts_schema.specs.Rows.{row_cmp}
use Rattle.ts_model.specs.declared.events.Event.{Event}
use Rattle.ts_model.specs.declared.events.Event.TheVariants.{Commit}
use Rattle.ts_model.specs.declared.events.Op.{Op}
use Rattle.ts_model.specs.declared.events.Op.TheVariants.{Insert, Delete}
use Rattle.ts_model.specs.declared.rosters.Roster.{Roster}
use Rattle.ts_model.specs.Sound.{op_fits}
use Rattle.ts_model.specs.Valid.{all_stand}

-- an insert of rows in order, into a table from number low on
abbrev pub op_held : Roster → ℕ → Op → Bool
op_held r low (Insert t new) = nat_le low t && op_fits r (Insert t new) && all_stand row_cmp new
op_held r low (Delete t tests) = false

-- the one operation of a commit passes a test
abbrev pub of_one : (Op → Bool) → Event → Bool
of_one test (Commit (op ∷ [])) = test op
of_one test e = false

-- a commit of one such insert
abbrev pub is_held : Roster → ℕ → Event → Bool
is_held r low e = of_one (op_held r low) e

-- the number after that of the table of an operation
abbrev pub after_table : Op → ℕ
after_table (Insert t new) = suc t
after_table (Delete t tests) = suc t

-- the number after that of the table of a commit of one operation
abbrev pub next_table : Event → ℕ
next_table (Commit (op ∷ [])) = after_table op
next_table e = zero

-- an insert of rows whose times are in range
abbrev pub op_timed : Op → Bool
op_timed (Insert t new) = list_all (λ row. is_time row.at) new
op_timed (Delete t tests) = false

-- a commit of one such insert
abbrev pub is_timed : Event → Bool
is_timed e = of_one op_timed e
