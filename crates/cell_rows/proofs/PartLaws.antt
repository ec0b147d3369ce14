-- One more part at the end, and the number of parts.
use Rattle.std.proofs.Common.{◌≡◌, ℕ, suc, ◌+◌, ◌-◌, ◌≤◌, List, [], ◌∷◌, ◌++◌, length, take, drop, refl, sym, ap, ◌∙◌, subst, arith}
use Rattle.std.proofs.lemmas.List.{take-append-le, drop-append-le, length-append, length-drop, take_all, drop_all}
use Rattle.cell_rows.specs.Parts.{parts, AreParts}

module _ {X : Type 0} where
  -- there is a part for each end
  pub length_parts : (from : ℕ) (ends : List ℕ) (cells : List X) → length (parts from ends cells) ≡ length ends
  length_parts from [] cells = refl
  length_parts from (end ∷ ends) cells = ap suc (length_parts end ends (drop (end - from) cells))

  -- where the list ends after a row more
  rest_end : (from end : ℕ) (cells row : List X) → from ≤ end → end - from ≤ length cells → end + length (drop (end - from) cells ++ row) ≡ from + length (cells ++ row)
  rest_end from end cells row le fits =
      let left : length (drop (end - from) cells) ≡ length cells - (end - from) = length-drop (end - from) cells in
      let sum : length (drop (end - from) cells ++ row) ≡ length (drop (end - from) cells) + length row = length-append (drop (end - from) cells) row in
      let all : length (cells ++ row) ≡ length cells + length row = length-append cells row in
      omega arith

  -- a row more at the end is a part more
  pub parts_pushed : (from last : ℕ) (ends : List ℕ) (cells row : List X) → AreParts from ends cells → last ≡ from + length (cells ++ row) → parts from (ends ++ last ∷ []) (cells ++ row) ≡ parts from ends cells ++ row ∷ []
  parts_pushed from last [] cells row none at =
      subst (λ cs. last ≡ from + length (cs ++ row) → parts from (last ∷ []) (cs ++ row) ≡ row ∷ []) (sym none)
      (λ e. ap (λ r. r ∷ []) (take_all (last - from) row (omega arith))) at
  parts_pushed from last (end ∷ ends) cells row fit at =
      let rest = drop (end - from) cells in
      let sum : last ≡ end + length (rest ++ row) = at ∙ sym (rest_end from end cells row fit.0 fit.1) in
      ap (λ r. r ∷ parts end (ends ++ last ∷ []) (drop (end - from) (cells ++ row))) (take-append-le (end - from) cells row fit.1)
      ∙ ap (λ r. take (end - from) cells ∷ r)
      (ap (parts end (ends ++ last ∷ [])) (drop-append-le (end - from) cells row fit.1)
      ∙ parts_pushed end last ends rest row fit.2 sum)

  -- and the places are still those of parts
  pub are_parts_pushed : (from last : ℕ) (ends : List ℕ) (cells row : List X) → AreParts from ends cells → last ≡ from + length (cells ++ row) → AreParts from (ends ++ last ∷ []) (cells ++ row)
  are_parts_pushed from last [] cells row none at =
      subst (λ cs. last ≡ from + length (cs ++ row) → AreParts from (last ∷ []) (cs ++ row)) (sym none)
      (λ e. (omega arith, omega arith, drop_all (last - from) row (omega arith))) at
  are_parts_pushed from last (end ∷ ends) cells row fit at =
      let rest = drop (end - from) cells in
      let sum : last ≡ end + length (rest ++ row) = at ∙ sym (rest_end from end cells row fit.0 fit.1) in
      let all : length (cells ++ row) ≡ length cells + length row = length-append cells row in
      let fits : end - from ≤ length cells = fit.1 in
      (fit.0, omega arith, subst (AreParts end (ends ++ last ∷ [])) (sym (drop-append-le (end - from) cells row fit.1)) (are_parts_pushed end last ends rest row fit.2 sum))

  -- cells that were appended at the end are a row once their end is stored
  pub row_ended : (ends_before ends : List ℕ) (before cells row : List X) (last : ℕ) → AreParts 0 ends_before before → cells ≡ before ++ row → last ≡ length cells → ends ≡ ends_before ++ last ∷ [] → AreParts 0 ends cells × (parts 0 ends cells ≡ parts 0 ends_before before ++ row ∷ [])
  row_ended ends_before ends before cells row last fit put at told =
      let same : last ≡ length (before ++ row) = at ∙ ap length put in
      let sum : last ≡ 0 + length (before ++ row) = omega arith in
      subst (λ es. AreParts 0 es cells × (parts 0 es cells ≡ parts 0 ends_before before ++ row ∷ [])) (sym told)
      (subst (λ cs. AreParts 0 (ends_before ++ last ∷ []) cs × (parts 0 (ends_before ++ last ∷ []) cs ≡ parts 0 ends_before before ++ row ∷ [])) (sym put)
      (are_parts_pushed 0 last ends_before before row fit sum, parts_pushed 0 last ends_before before row fit sum))
