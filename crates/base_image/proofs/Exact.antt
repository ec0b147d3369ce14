-- Formats: how values of a type are written, which values can be written, and how they are read. A reading is
-- exact: it returns a value if its encoding is in front, and otherwise nothing.
use Rattle.std.proofs.Common.{◌≡◌, ℕ, zero, suc, Bool, true, false, cond, List, [], ◌∷◌, ◌++◌, length, Result, Ok, Err, refl, sym, ap, subst, ◌∙◌, append_assoc, arith}
use Rattle.std.specs.List.{flat_map, AllByRecursion}
use Rattle.std.proofs.lemmas.List.{nil_from_length}
use Rattle.event_codec.specs.Formed.{IsFour, Many}
use Rattle.event_codec.specs.Spelling.{four, many}
use Rattle.event_codec.specs.Reading.{Reads, go_on, gives, pair, read_map, put_before, items, second, any_four, many_of}
use Rattle.event_codec.proofs.Formats.{IsFormat, Stands, Source, SameSpelling, went_on, done, same_value, same_left}
use Rattle.event_codec.proofs.NumberLaws.{any_four_format}
use Rattle.base_image.specs.Reading.{checked_by}

pub record IsExact {A : Type 0} (spelling : A → List ℕ) (fits : A → Type 0) (read : Reads A) : Type 0 where
  -- the encoding of a value read is in front
  pub takes : (bytes : List ℕ) (a : A) (left : List ℕ) → read bytes ≡ Ok (a, left) → Stands spelling fits bytes a left
  -- an encoding in front is read, with anything after it
  pub again : (a : A) (left : List ℕ) → fits a → read (spelling a ++ left) ≡ Ok (a, left)

pub exact : {A : Type 0} {spelling : A → List ℕ} {fits : A → Type 0} {read : Reads A} → IsFormat spelling fits read → IsExact spelling fits read
exact f = record { takes = f.takes; again = f.again }

abbrev Read : Type 0 → Type 0
Read A = Result (A × List ℕ) (List ℕ)

-- ---- nothing

pub gives_exact : {A : Type 0} (a : A) → IsExact (λ b. []) (λ b. b ≡ a) (gives a)
gives_exact {A} a = record {
  takes = λ bytes b left e. record { ok = sym (same_value a b bytes left e); parts = same_left a b bytes left e };
  again = λ b left h. let same : b ≡ a = h in cc;
}

-- ---- values that pass a test

module _ {A : Type 0} (test : A → Bool) (spell : A → List ℕ) (fits : A → Type 0) (p : Reads A) (first : IsExact spell fits p) where
  abbrev tested : A → Reads A
  tested a left = cond (test a) (Ok (a, left)) (Err left)

  passes : (t : Bool) (a b : A) (end left : List ℕ) → test a ≡ t → cond t (done a end) (Err end) ≡ Ok (b, left) → (test a ≡ true) × (a ≡ b) × (end ≡ left)
  passes true a b end left is e = (is, same_value a b end left e, same_left a b end left e)
  passes false a b end left is e = absurd cc

  checked_takes : (bytes : List ℕ) (b : A) (left : List ℕ) → checked_by test p bytes ≡ Ok (b, left) → Stands spell (λ a. fits a × (test a ≡ true)) bytes b left
  checked_takes bytes b left e =
      let w = went_on (p bytes) tested (b, left) e in
      let t = passes (test w.0.0) w.0.0 b w.0.1 left refl w.2 in
      let one = first.takes bytes w.0.0 w.0.1 w.1 in
      record {
        ok = (subst fits t.1 one.ok, subst (λ (a : A). test a ≡ true) t.1 t.0);
        parts = one.parts ∙ ap (λ (a : A). spell a ++ w.0.1) t.1 ∙ ap (λ (l : List ℕ). spell b ++ l) t.2;
      }

  pub checked_exact : IsExact spell (λ a. fits a × (test a ≡ true)) (checked_by test p)
  checked_exact = record {
    takes = checked_takes;
    again = λ a left h. ap (λ (r : Read A). go_on r tested) (first.again a left h.0) ∙ ap (λ (t : Bool). cond t (done a left) (Err left)) h.1;
  }

-- ---- in order

module _ {A B : Type 0} (spell : A → List ℕ) (fits : A → Type 0) (p : Reads A) (spell_next : A → B → List ℕ) (fits_next : A → B → Type 0) (q : A → Reads B) (first : IsExact spell fits p) (next : (a : A) → fits a → IsExact (spell_next a) (fits_next a) (q a)) where
  abbrev spell_both : A × B → List ℕ
  spell_both x = spell x.0 ++ spell_next x.0 x.1

  abbrev fits_both : A × B → Type 0
  fits_both x = fits x.0 × fits_next x.0 x.1

  abbrev joined : A → Reads (A × B)
  joined a left = go_on (q a left) (λ b end. Ok ((a, b), end))

  joined_takes : (a : A) (bytes : List ℕ) (x : A × B) (left : List ℕ) → joined a bytes ≡ Ok (x, left) → (b : B) × (q a bytes ≡ Ok (b, left)) × (x ≡ (a, b))
  joined_takes a bytes x left e =
      let w = went_on (q a bytes) (λ b end. Ok ((a, b), end)) (x, left) e in
      let value = same_value (a, w.0.0) x w.0.1 left w.2 in
      let end = same_left (a, w.0.0) x w.0.1 left w.2 in
      (w.0.0, subst (λ (l : List ℕ). q a bytes ≡ Ok (w.0.0, l)) end w.1, sym value)

  pair_takes : (bytes : List ℕ) (x : A × B) (left : List ℕ) → pair p q bytes ≡ Ok (x, left) → Stands spell_both fits_both bytes x left
  pair_takes bytes x left e =
      let w = went_on (p bytes) joined (x, left) e in
      let one = first.takes bytes w.0.0 w.0.1 w.1 in
      let j = joined_takes w.0.0 w.0.1 x left w.2 in
      let two = (next w.0.0 one.ok).takes w.0.1 j.0 left j.1 in
      let whole : bytes ≡ (spell w.0.0 ++ spell_next w.0.0 j.0) ++ left = one.parts ∙ ap (λ (r : List ℕ). spell w.0.0 ++ r) two.parts ∙ sym (append_assoc (spell w.0.0) (spell_next w.0.0 j.0) left) in
      subst (λ (y : A × B). Stands spell_both fits_both bytes y left) (sym j.2) (record { ok = (one.ok, two.ok); parts = whole })

  pair_again : (x : A × B) (left : List ℕ) → fits_both x → pair p q (spell_both x ++ left) ≡ Ok (x, left)
  pair_again x left h =
      let one = first.again x.0 (spell_next x.0 x.1 ++ left) h.0 in
      let two = (next x.0 h.0).again x.1 left h.1 in
      ap (pair p q) (append_assoc (spell x.0) (spell_next x.0 x.1) left)
      ∙ ap (λ (r : Read A). go_on r joined) one
      ∙ ap (λ (r : Read B). go_on r (λ b end. done (x.0, b) end)) two

  pub pair_exact : IsExact (λ x. spell x.0 ++ spell_next x.0 x.1) (λ x. fits x.0 × fits_next x.0 x.1) (pair p q)
  pair_exact = record { takes = pair_takes; again = pair_again }

-- ---- seen as something else

module _ {A B : Type 0} (f : A → B) (spell : A → List ℕ) (fits : A → Type 0) (p : Reads A) (seen : B → List ℕ) (holds : B → Type 0) (first : IsExact spell fits p) (same : SameSpelling f spell fits seen holds) where
  abbrev seen_as : A → Reads B
  seen_as a left = Ok (f a, left)

  map_takes : (bytes : List ℕ) (b : B) (left : List ℕ) → read_map f p bytes ≡ Ok (b, left) → Stands seen holds bytes b left
  map_takes bytes b left e =
      let w = went_on (p bytes) seen_as (b, left) e in
      let value = same_value (f w.0.0) b w.0.1 left w.2 in
      let end = same_left (f w.0.0) b w.0.1 left w.2 in
      let one = first.takes bytes w.0.0 w.0.1 w.1 in
      let t = same.there w.0.0 one.ok in
      record {
        ok = subst holds value t.0;
        parts = one.parts ∙ ap (λ (l : List ℕ). l ++ w.0.1) (sym t.1) ∙ ap (λ (c : B). seen c ++ w.0.1) value ∙ ap (λ (l : List ℕ). seen b ++ l) end;
      }

  map_again : (b : B) (left : List ℕ) → holds b → read_map f p (seen b ++ left) ≡ Ok (b, left)
  map_again b left h =
      let s = same.back b h in
      ap (λ (w : List ℕ). read_map f p (w ++ left)) s.spelled
      ∙ ap (λ (r : Read A). go_on r seen_as) (first.again s.value left s.ok)
      ∙ ap (λ (c : B). done c left) s.same

  pub map_exact : IsExact seen holds (read_map f p)
  map_exact = record { takes = map_takes; again = map_again }

-- ---- a given number of items

module _ {A : Type 0} (spell : A → List ℕ) (fits : A → Type 0) (p : Reads A) (first : IsExact spell fits p) where
  abbrev so_many : ℕ → List A → Type 0
  so_many n xs = (length xs ≡ n) × AllByRecursion fits xs

  none_at_all : (xs : List A) → so_many 0 xs → xs ≡ []
  none_at_all xs h = nil_from_length xs h.0

  one_before : (n : ℕ) → SameSpelling put_before (λ x. spell x.0 ++ flat_map spell x.1) (λ x. fits x.0 × so_many n x.1) (flat_map spell) (so_many (suc n))
  one_before n = record { there = λ x h. ((ap suc h.1.0, (h.0, h.1.1)), refl); back = back }
    where
      back : (xs : List A) → so_many (suc n) xs → Source put_before (λ x. spell x.0 ++ flat_map spell x.1) (λ x. fits x.0 × so_many n x.1) (flat_map spell) xs
      back [] h = absurd (omega (arith, h.0))
      back (x ∷ xs) h = record { value = (x, xs); ok = (h.1.0, (omega (arith, h.0), h.1.1)); same = refl; spelled = refl }

  pub items_exact : (n : ℕ) → IsExact (flat_map spell) (λ xs. (length xs ≡ n) × AllByRecursion fits xs) (items n p)
  unfolding items
  items_exact zero = record {
    takes = λ bytes xs left e. let none = same_value [] xs bytes left e in record { ok = subst (so_many 0) none (refl, tt); parts = same_left [] xs bytes left e ∙ ap (λ (ys : List A). flat_map spell ys ++ left) none };
    again = λ xs left h. let none = none_at_all xs h in ap (λ (ys : List A). done [] (flat_map spell ys ++ left)) none ∙ ap (λ (ys : List A). done ys left) (sym none);
  }
  items_exact (suc n) = map_exact put_before (λ x. spell x.0 ++ flat_map spell x.1) (λ x. fits x.0 × so_many n x.1) (pair p (λ a. items n p)) (flat_map spell) (so_many (suc n))
      (pair_exact spell fits p (λ a. flat_map spell) (λ a. so_many n) (λ a. items n p) first (λ a h. items_exact n))
      (one_before n)

  pub many_exact : IsExact (many spell) (Many fits) (many_of p)
  many_exact = map_exact second (λ x. four x.0 ++ flat_map spell x.1) (λ x. IsFour x.0 × so_many x.0 x.1) (pair any_four (λ n. items n p)) (many spell) (Many fits)
      (pair_exact four IsFour any_four (λ n. flat_map spell) so_many (λ n. items n p) (exact any_four_format) (λ n h. items_exact n))
      (record {
        there = λ x h. ((subst IsFour (sym h.1.0) h.0, h.1.1), ap (λ (n : ℕ). four n ++ flat_map spell x.1) h.1.0);
        back = λ xs h. record { value = (length xs, xs); ok = (h.0, (refl, h.1)); same = refl; spelled = refl };
      })
