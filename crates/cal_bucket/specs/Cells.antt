-- The values that the code reads from a cell.
use Rattle.std.specs.Prelude.{List, [], ◌∷◌, IsTrue, ⊤}
use Rattle.ts_num.specs.declared.values.Datum.{Datum}
use Rattle.ts_num.specs.declared.values.Datum.TheVariants.{Null, Int, Ratio}
use Rattle.ts_bucket.specs.Bucket.{is_time}
use Rattle.ts_model.specs.Limits.{is_word}

-- the cell shows NULL or a number of 64 bits
abbrev pub ShowsAValue : Datum → Type 0
ShowsAValue Null = ⊤
ShowsAValue (Int n) = IsTrue (is_word n)
ShowsAValue (Ratio r) = ⊥

-- the first of the cells shows a time
abbrev pub BeginWithATime : List Datum → Type 0
BeginWithATime [] = ⊥
BeginWithATime (Null ∷ cells) = ⊥
BeginWithATime (Int n ∷ cells) = IsTrue (is_time n)
BeginWithATime (Ratio r ∷ cells) = ⊥
