-- Items read in order, as a loop does.
use Rattle.std.proofs.Common.{◌≡◌, ℕ, suc, ◌-◌, ◌+◌, ◌≤◌, ◌<◌, List, [], ◌∷◌, ◌++◌, Result, Ok, Err, refl, sym, ap, ◌∙◌, append_assoc, arith}
use Rattle.std.proofs.lemmas.List.{append-nil}
use Rattle.event_codec.specs.declared.errors.ReadError.{ReadError}
use Rattle.event_codec.specs.declared.errors.ReadError.TheVariants as errors
use Rattle.event_codec.specs.Reading.{Reads, Gives, go_on, put_before, items}
use Rattle.event_codec.proofs.Formats.{done}

module _ {A : Type 0} (p : Reads A) where
  abbrev Many : Type 0
  Many = Result (List A × List ℕ) (List ℕ)

  -- the items read before, and those still to be read
  abbrev pub with_front : List A → Many → Many
  with_front front read = go_on read (λ others end. Ok (front ++ others, end))

  abbrev with_first : A → Many → Many
  with_first a read = go_on read (λ others end. Ok (a ∷ others, end))

  first_of_pair : (a : A) (r : Many) → go_on (go_on r (λ b end. Ok ((a, b), end))) (λ x end. Ok (put_before x, end)) ≡ with_first a r
  first_of_pair a (Ok x) = refl
  first_of_pair a (Err left) = refl

  abbrev from_first : ℕ → Result (A × List ℕ) (List ℕ) → Many
  from_first n r = go_on (go_on r (λ b left. go_on (items n p left) (λ c end. Ok ((b, c), end)))) (λ x end. Ok (put_before x, end))

  one_more : (n : ℕ) (bytes after : List ℕ) (a : A) → p bytes ≡ Ok (a, after) → items (suc n) p bytes ≡ with_first a (items n p after)
  unfolding items
  one_more n bytes after a h = ap (from_first n) h ∙ first_of_pair a (items n p after)

  none_more : (n : ℕ) (bytes left : List ℕ) → p bytes ≡ Err left → items (suc n) p bytes ≡ Err left
  unfolding items
  none_more n bytes left h = ap (from_first n) h

  regroup : (front : List A) (a : A) (r : Many) → with_front front (with_first a r) ≡ with_front (front ++ a ∷ []) r
  regroup front a (Ok x) = ap (λ (xs : List A). done xs x.1) (sym (append_assoc front (a ∷ []) x.0))
  regroup front a (Err left) = refl

  pub goes_on : (front : List A) (count i : ℕ) (bytes after : List ℕ) (a : A) (total : Many) → i < count → p bytes ≡ Ok (a, after) → with_front front (items (count - i) p bytes) ≡ total → with_front (front ++ a ∷ []) (items (count - (i + 1)) p after) ≡ total
  goes_on front count i bytes after a total lt h so_far =
      let k : count - i ≡ suc (count - (i + 1)) = omega arith in
      let step : with_front front (items (count - i) p bytes) ≡ with_front (front ++ a ∷ []) (items (count - (i + 1)) p after) =
      ap (λ (n : ℕ). with_front front (items n p bytes)) k ∙ ap (with_front front) (one_more (count - (i + 1)) bytes after a h) ∙ regroup front a (items (count - (i + 1)) p after) in
      sym step ∙ so_far

  pub ends : (e : ReadError) (front : List A) (count i : ℕ) (bytes left : List ℕ) (total : Many) → i < count → Gives (Err e) (p bytes) left → with_front front (items (count - i) p bytes) ≡ total → Gives (Err e) total left
  ends errors.Memory front count i bytes left total lt h so_far = tt
  ends errors.Bad front count i bytes left total lt h so_far =
      let k : count - i ≡ suc (count - (i + 1)) = omega arith in
      let step : with_front front (items (count - i) p bytes) ≡ Err left =
      ap (λ (n : ℕ). with_front front (items n p bytes)) k ∙ ap (with_front front) (none_more (count - (i + 1)) bytes left h) in
      sym so_far ∙ step

  pub is_done : (front : List A) (count i : ℕ) (bytes : List ℕ) (total : Many) → count ≤ i → with_front front (items (count - i) p bytes) ≡ total → total ≡ Ok (front, bytes)
  unfolding items
  is_done front count i bytes total le so_far =
      let k : count - i ≡ 0 = omega arith in
      let step : with_front front (items (count - i) p bytes) ≡ Ok (front, bytes) = ap (λ (n : ℕ). with_front front (items n p bytes)) k ∙ ap (λ (xs : List A). done xs bytes) (append-nil front) in
      sym so_far ∙ step

  pub begins : (count : ℕ) (bytes : List ℕ) → with_front [] (items (count - 0) p bytes) ≡ items count p bytes
  begins count bytes =
      let k : count - 0 ≡ count = omega arith in
      ap (λ (n : ℕ). with_front [] (items n p bytes)) k ∙ same (items count p bytes)
    where
      same : (r : Many) → with_front [] r ≡ r
      same (Ok x) = refl
      same (Err left) = refl
