-- The texts of values.
use Rattle.std.specs.Prelude.{ℕ, List, ◌++◌, codes, decimal}
use Rattle.std.specs.Fmt.{signed_decimal}
use Rattle.ts_num.specs.declared.fractions.Frac.{Frac}
use Rattle.ts_num.specs.declared.values.Datum.{Datum}
use Rattle.ts_num.specs.declared.values.Datum.TheVariants.{Null, Int, Ratio}

-- a ratio: the numerator, a slash, the denominator
abbrev pub ratio_text : Frac → List ℕ
ratio_text f = signed_decimal f.num ++ codes "/" ++ decimal f.den

-- what a cell shows
abbrev pub datum_text : Datum → List ℕ
datum_text Null = codes "null"
datum_text (Int n) = signed_decimal n
datum_text (Ratio f) = ratio_text f
