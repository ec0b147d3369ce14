-- Laws of cells read as values.
use Rattle.std.proofs.Common.{◌≡◌, ℕ, zero, suc, ◌+◌, List, [], ◌∷◌, drop, refl, ap, ◌∙◌, arith}
use Rattle.ts_num.specs.declared.values.Datum.{Datum}
use Rattle.ts_model.specs.Results.{cell_at}

-- a cell after some
pub cell_behind : (cells : List Datum) (skip place : ℕ) → cell_at cells (skip + place) ≡ cell_at (drop skip cells) place
cell_behind cells zero place = ap (cell_at cells) (let e : 0 + place ≡ place = omega arith in e)
cell_behind [] (suc skip) place = refl
cell_behind (d ∷ cells) (suc skip) place = ap (cell_at (d ∷ cells)) (let e : suc skip + place ≡ suc (skip + place) = omega arith in e) ∙ cell_behind cells skip place
