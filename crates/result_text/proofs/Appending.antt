-- Pieces appended in order are appended together.
use Rattle.std.proofs.Common.{◌≡◌, ◌∙◌, ap, sym, refl, ℕ, List, [], ◌∷◌, ◌++◌, codes}
use Rattle.std.proofs.lemmas.List.{append_assoc}
use Rattle.ts_num.specs.Texts.{datum_text}
use Rattle.ts_num.specs.declared.values.Datum.{Datum}
use Rattle.result_text.specs.Answers.{more_cells}

pub two_pieces : (text a b : List ℕ) → text ++ a ++ b ≡ text ++ (a ++ b)
two_pieces text a b = append_assoc text a b

pub three_pieces : (text a b c : List ℕ) → text ++ a ++ b ++ c ≡ text ++ (a ++ b ++ c)
three_pieces text a b c = ap (λ t. t ++ c) (two_pieces text a b) ∙ append_assoc text (a ++ b) c

pub four_pieces : (text a b c d : List ℕ) → text ++ a ++ b ++ c ++ d ≡ text ++ (a ++ b ++ c ++ d)
four_pieces text a b c d = ap (λ t. t ++ d) (three_pieces text a b c) ∙ append_assoc text (a ++ b ++ c) d

-- ---- cells

more_cells-append : (a b : List Datum) → more_cells (a ++ b) ≡ more_cells a ++ more_cells b
more_cells-append [] b = refl
more_cells-append (d ∷ a) b =
    ap (λ t. codes "|" ++ datum_text d ++ t) (more_cells-append a b) ∙ sym (append_assoc (codes "|" ++ datum_text d) (more_cells a) (more_cells b))

-- the first cell, then the cells of two lists
pub cells_in_two : (text first : List ℕ) (a b : List Datum) → text ++ first ++ more_cells a ++ more_cells b ≡ text ++ (first ++ more_cells (a ++ b))
cells_in_two text first a b = three_pieces text first (more_cells a) (more_cells b) ∙ ap (λ t. text ++ t) (append_assoc first (more_cells a) (more_cells b) ∙ ap (λ t. first ++ t) (sym (more_cells-append a b)))
