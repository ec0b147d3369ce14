-- The first line of a text, and the lines that follow it.
use Rattle.std.proofs.Common.{◌≡◌, ℕ, ◌+◌, ◌<◌, List, [], ◌∷◌, length, take, drop, sym, ap, ◌∙◌, take_all, arith}
use Rattle.std.proofs.lemmas.List.{drop_all}
use Rattle.ts_io.specs.Lines.{lines_of, ended_lines, IsFirstEnd}
use Rattle.ts_io.proofs.LineLaws.{lines_of-at, lines_of-last}
use Rattle.ts_io.proofs.LineEnds.{split_end}

-- the bytes up to the first line end
pub ended_line : (text : List ℕ) (n : ℕ) → IsFirstEnd text n → lines_of text ≡ take n text ∷ lines_of (drop (n + 1) text)
ended_line text n found = ap lines_of (split_end text n found) ∙ lines_of-at (take n text) (drop (n + 1) text) found.2

-- the bytes up to the end of the text, if it has no line end
pub last_line : (text : List ℕ) → ended_lines text ≡ [] → 0 < length text → lines_of text ≡ take (length text) text ∷ lines_of (drop (length text + 1) text)
last_line text none some =
    let n = length text in
    lines_of-last text none some ∙ (λ i. sym (take_all n text (omega arith)) i ∷ lines_of (sym (drop_all (n + 1) text (omega arith)) i))
