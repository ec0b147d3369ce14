-- Formats: how values of a type are written, which values can be written, and how they are read. A reading is
-- exact: it returns a value if its encoding is in front, and otherwise the bytes after the longest front that
-- begins an encoding.
use Rattle.std.proofs.Common.{◌≡◌, ℕ, zero, suc, ◌≤◌, Bool, true, false, cond, List, [], ◌∷◌, ◌++◌, length, length-append, Result, Ok, Err, refl, sym, ap, subst, ◌∙◌, append_assoc, arith, inl, inr, ◌⊎◌}
use Rattle.std.specs.List.{flat_map, AllByRecursion}
use Rattle.std.proofs.lemmas.List.{nil_from_length}
use Rattle.event_codec.specs.Reading.{Reads, go_on, gives, pair, read_map, byte_where, put_before, items, second, counted_list}

-- a value that fits
pub record Sample {A : Type 0} (fits : A → Type 0) : Type 0 where
  pub value : A
  pub ok : fits value

-- the value that was read, whose encoding is in front
pub record Stands {A : Type 0} (spelling : A → List ℕ) (fits : A → Type 0) (bytes : List ℕ) (a : A) (left : List ℕ) : Type 0 where
  pub ok : fits a
  pub parts : bytes ≡ spelling a ++ left

-- bytes are a front that begins a text, and a rest
pub record Begins (bytes left text : List ℕ) : Type 0 where
  pub front : List ℕ
  pub more : List ℕ
  pub parts : bytes ≡ front ++ left
  pub begun : text ≡ front ++ more

-- a front that begins the encoding of a value that fits
pub record Viable {A : Type 0} (spelling : A → List ℕ) (fits : A → Type 0) (bytes left : List ℕ) : Type 0 where
  pub value : A
  pub ok : fits value
  pub begins : Begins bytes left (spelling value)

pub record IsFormat {A : Type 0} (spelling : A → List ℕ) (fits : A → Type 0) (read : Reads A) : Type 0 where
  pub sample : Sample fits
  -- the encoding of a value read is in front
  pub takes : (bytes : List ℕ) (a : A) (left : List ℕ) → read bytes ≡ Ok (a, left) → Stands spelling fits bytes a left
  -- an encoding in front is read, with anything after it
  pub again : (a : A) (left : List ℕ) → fits a → read (spelling a ++ left) ≡ Ok (a, left)
  -- if nothing is read, the front begins some encoding
  pub viable : (bytes left : List ℕ) → read bytes ≡ Err left → Viable spelling fits bytes left
  -- and no longer front does
  pub longest : (bytes left : List ℕ) → read bytes ≡ Err left → (a : A) (other : List ℕ) → fits a → Begins bytes other (spelling a) → length left ≤ length other

-- ---- lists

-- two ways to split a list
pub parted : (a b c d : List ℕ) → a ++ b ≡ c ++ d → ((e : List ℕ) × (c ≡ a ++ e) × (b ≡ e ++ d)) ⊎ ((e : List ℕ) × (a ≡ c ++ e) × (d ≡ e ++ b))
parted [] b c d e = inl (c, refl, e)
parted (x ∷ a) b [] d e = inr (x ∷ a, refl, sym e)
parted (x ∷ a) b (y ∷ c) d e =
    let head : x ≡ y = cc in
    let tail : a ++ b ≡ c ++ d = cc in
    elim (parted a b c d tail) [
      | inl p ↦ inl (p.0, cc (p.1, head), p.2)
      | inr p ↦ inr (p.0, cc (p.1, head), p.2)
    ]

abbrev Read : Type 0 → Type 0
Read A = Result (A × List ℕ) (List ℕ)

-- the two ways in which two readings in order can end
pub went_on : {A B : Type 0} (r : Read A) (q : A → Reads B) (y : B × List ℕ) → go_on r q ≡ Ok y → (x : A × List ℕ) × (r ≡ Ok x) × (q x.0 x.1 ≡ Ok y)
went_on (Ok x) q y e = (x, refl, e)
went_on (Err left) q y e = absurd cc

pub stopped : {A B : Type 0} (r : Read A) (q : A → Reads B) (left : List ℕ) → go_on r q ≡ Err left → (r ≡ Err left) ⊎ ((x : A × List ℕ) × (r ≡ Ok x) × (q x.0 x.1 ≡ Err left))
stopped (Ok x) q left e = inr (x, refl, e)
stopped (Err other) q left e = inl (cc)

abbrev pub done : {A : Type 0} → A → List ℕ → Read A
done a left = Ok (a, left)

pub ok_is : {A : Type 0} (x y : A × List ℕ) → done x.0 x.1 ≡ done y.0 y.1 → x ≡ y
ok_is x y e = cc

pub same_value : {A : Type 0} (a b : A) (x y : List ℕ) → done a x ≡ done b y → a ≡ b
same_value {A} a b x y e = ap (λ (p : A × List ℕ). p.0) (ok_is (a, x) (b, y) e)

pub same_left : {A : Type 0} (a b : A) (x y : List ℕ) → done a x ≡ done b y → x ≡ y
same_left {A} a b x y e = ap (λ (p : A × List ℕ). p.1) (ok_is (a, x) (b, y) e)

failed : {A : Type 0} → List ℕ → Read A
failed left = Err left

-- a reading that returns a value doesn't fail
never_both : {A : Type 0} (r : Read A) (a : A) (left other : List ℕ) {Z : Type 0} → r ≡ Ok (a, left) → r ≡ Err other → Z
never_both r a left other e f = absurd cc

-- ---- nothing

pub gives_format : {A : Type 0} (a : A) → IsFormat (λ b. []) (λ b. b ≡ a) (gives a)
gives_format {A} a = record {
  sample = record { value = a; ok = refl };
  takes = λ bytes b left e. record { ok = sym (same_value a b bytes left e); parts = same_left a b bytes left e };
  again = λ b left h. let same : b ≡ a = h in cc;
  viable = λ bytes left e. absurd cc;
  longest = λ bytes left e b other h begins. absurd cc;
}

-- ---- a byte

byte_takes : (test : ℕ → Bool) (bytes : List ℕ) (a : ℕ) (left : List ℕ) → byte_where test bytes ≡ Ok (a, left) → Stands (λ b. b ∷ []) (λ b. test b ≡ true) bytes a left
byte_takes test [] a left e = absurd cc
byte_takes test (b ∷ bytes) a left e = by_test (test b) refl e
  where
    by_test : (t : Bool) → test b ≡ t → cond t (done b bytes) (Err (b ∷ bytes)) ≡ Ok (a, left) → Stands (λ c. c ∷ []) (λ c. test c ≡ true) (b ∷ bytes) a left
    by_test true is e =
        let value = same_value b a bytes left e in
        let rest = same_left b a bytes left e in
        record { ok = subst (λ (c : ℕ). test c ≡ true) value is; parts = cc (value, rest) }
    by_test false is e = absurd cc

byte_viable : (test : ℕ → Bool) (bytes left : List ℕ) → byte_where test bytes ≡ Err left → left ≡ bytes
byte_viable test [] left e = cc
byte_viable test (b ∷ bytes) left e = by_test (test b) e
  where
    by_test : (t : Bool) → cond t (done b bytes) (Err (b ∷ bytes)) ≡ Err left → left ≡ b ∷ bytes
    by_test true e = absurd cc
    by_test false e = cc

byte_longest : (test : ℕ → Bool) (bytes left : List ℕ) → byte_where test bytes ≡ Err left → (a : ℕ) (other front more : List ℕ) → test a ≡ true → bytes ≡ front ++ other → a ∷ [] ≡ front ++ more → length bytes ≤ length other
byte_longest test bytes left e a other [] more h parts begun = let same : bytes ≡ other = parts in omega (arith, ap length same)
byte_longest test [] left e a other (x ∷ front) more h parts begun = absurd cc
byte_longest test (b ∷ bytes) left e a other (x ∷ front) more h parts begun =
    let first : b ≡ x = cc in
    let second : a ≡ x = cc in
    let passes : test b ≡ true = subst (λ (c : ℕ). test c ≡ true) (second ∙ sym first) h in
    never_both (byte_where test (b ∷ bytes)) b bytes left (ap (λ (t : Bool). cond t (done b bytes) (Err (b ∷ bytes))) passes) e

pub byte_format : (test : ℕ → Bool) (a : ℕ) → test a ≡ true → IsFormat (λ b. b ∷ []) (λ b. test b ≡ true) (byte_where test)
byte_format test a passes = record {
  sample = record { value = a; ok = passes };
  takes = byte_takes test;
  again = λ b left h. ap (λ (t : Bool). cond t (done b left) (Err (b ∷ left))) h;
  viable = λ bytes left e. record { value = a; ok = passes; begins = record { front = []; more = a ∷ []; parts = sym (byte_viable test bytes left e); begun = refl } };
  longest = λ bytes left e b other h begins. let same = byte_viable test bytes left e in omega (arith, ap length same, byte_longest test bytes left e b other begins.front begins.more h begins.parts begins.begun);
}

-- ---- in order

module _ {A B : Type 0} (spell : A → List ℕ) (fits : A → Type 0) (p : Reads A) (spell_next : A → B → List ℕ) (fits_next : A → B → Type 0) (q : A → Reads B) (first : IsFormat spell fits p) (next : (a : A) → fits a → IsFormat (spell_next a) (fits_next a) (q a)) where
  abbrev spell_both : A × B → List ℕ
  spell_both x = spell x.0 ++ spell_next x.0 x.1

  abbrev fits_both : A × B → Type 0
  fits_both x = fits x.0 × fits_next x.0 x.1

  abbrev joined : A → Reads (A × B)
  joined a left = go_on (q a left) (λ b end. Ok ((a, b), end))

  joined_takes : (a : A) (bytes : List ℕ) (x : A × B) (left : List ℕ) → joined a bytes ≡ Ok (x, left) → (b : B) × (q a bytes ≡ Ok (b, left)) × (x ≡ (a, b))
  joined_takes a bytes x left e =
      let w = went_on (q a bytes) (λ b end. Ok ((a, b), end)) (x, left) e in
      let value = same_value (a, w.0.0) x w.0.1 left w.2 in
      let end = same_left (a, w.0.0) x w.0.1 left w.2 in
      (w.0.0, subst (λ (l : List ℕ). q a bytes ≡ Ok (w.0.0, l)) end w.1, sym value)

  joined_fails : (a : A) (bytes left : List ℕ) → joined a bytes ≡ Err left → q a bytes ≡ Err left
  joined_fails a bytes left e = elim (stopped (q a bytes) (λ b end. Ok ((a, b), end)) left e) [
    | inl f ↦ f
    | inr s ↦ absurd cc
  ]

  pair_takes : (bytes : List ℕ) (x : A × B) (left : List ℕ) → pair p q bytes ≡ Ok (x, left) → Stands spell_both fits_both bytes x left
  pair_takes bytes x left e =
      let w = went_on (p bytes) joined (x, left) e in
      let one = first.takes bytes w.0.0 w.0.1 w.1 in
      let j = joined_takes w.0.0 w.0.1 x left w.2 in
      let two = (next w.0.0 one.ok).takes w.0.1 j.0 left j.1 in
      let whole : bytes ≡ (spell w.0.0 ++ spell_next w.0.0 j.0) ++ left = one.parts ∙ ap (λ (r : List ℕ). spell w.0.0 ++ r) two.parts ∙ sym (append_assoc (spell w.0.0) (spell_next w.0.0 j.0) left) in
      subst (λ (y : A × B). Stands spell_both fits_both bytes y left) (sym j.2) (record { ok = (one.ok, two.ok); parts = whole })

  pair_again : (x : A × B) (left : List ℕ) → fits_both x → pair p q (spell_both x ++ left) ≡ Ok (x, left)
  pair_again x left h =
      let one = first.again x.0 (spell_next x.0 x.1 ++ left) h.0 in
      let two = (next x.0 h.0).again x.1 left h.1 in
      ap (pair p q) (append_assoc (spell x.0) (spell_next x.0 x.1) left)
      ∙ ap (λ (r : Read A). go_on r joined) one
      ∙ ap (λ (r : Read B). go_on r (λ b end. done (x.0, b) end)) two

  pair_viable : (bytes left : List ℕ) → pair p q bytes ≡ Err left → Viable spell_both fits_both bytes left
  pair_viable bytes left e = elim (stopped (p bytes) joined left e) [
    | inl f ↦
        let v = first.viable bytes left f in
        let s = (next v.value v.ok).sample in
        record {
          value = (v.value, s.value);
          ok = (v.ok, s.ok);
          begins = record {
            front = v.begins.front;
            more = v.begins.more ++ spell_next v.value s.value;
            parts = v.begins.parts;
            begun = ap (λ (t : List ℕ). t ++ spell_next v.value s.value) v.begins.begun ∙ append_assoc v.begins.front v.begins.more (spell_next v.value s.value);
          };
        }
    | inr w ↦
        let one = first.takes bytes w.0.0 w.0.1 w.1 in
        let v = (next w.0.0 one.ok).viable w.0.1 left (joined_fails w.0.0 w.0.1 left w.2) in
        record {
          value = (w.0.0, v.value);
          ok = (one.ok, v.ok);
          begins = record {
            front = spell w.0.0 ++ v.begins.front;
            more = v.begins.more;
            parts = one.parts ∙ ap (λ (r : List ℕ). spell w.0.0 ++ r) v.begins.parts ∙ sym (append_assoc (spell w.0.0) v.begins.front left);
            begun = ap (λ (r : List ℕ). spell w.0.0 ++ r) v.begins.begun ∙ sym (append_assoc (spell w.0.0) v.begins.front v.begins.more);
          };
        }
  ]

  -- no encoding is a prefix of another: two that begin one text are the same
  first_same : (a c : A) (x y : List ℕ) → fits a → fits c → spell a ++ x ≡ spell c ++ y → (a ≡ c) × (x ≡ y)
  first_same a c x y h k e =
      let both : done a x ≡ done c y = sym (first.again a x h) ∙ ap p e ∙ first.again c y k in
      (same_value a c x y both, same_left a c x y both)

  pair_longest : (bytes left : List ℕ) → pair p q bytes ≡ Err left → (x : A × B) (other : List ℕ) → fits_both x → Begins bytes other (spell_both x) → length left ≤ length other
  pair_longest bytes left e x other h begins = elim (stopped (p bytes) joined left e) [
    | inl f ↦ elim (parted (spell x.0) (spell_next x.0 x.1) begins.front begins.more begins.begun) [
      | inl longer ↦
          let whole : bytes ≡ spell x.0 ++ (longer.0 ++ other) = begins.parts ∙ ap (λ (t : List ℕ). t ++ other) longer.1 ∙ append_assoc (spell x.0) longer.0 other in
          never_both (p bytes) x.0 (longer.0 ++ other) left (ap p whole ∙ first.again x.0 (longer.0 ++ other) h.0) f
      | inr shorter ↦ first.longest bytes left f x.0 other h.0 (record { front = begins.front; more = shorter.0; parts = begins.parts; begun = shorter.1 })
    ]
    | inr w ↦
        let one = first.takes bytes w.0.0 w.0.1 w.1 in
        let f = joined_fails w.0.0 w.0.1 left w.2 in
        let v = (next w.0.0 one.ok).viable w.0.1 left f in
        let short : length left ≤ length w.0.1 = omega (arith, ap length v.begins.parts, length-append v.begins.front left) in
        elim (parted (spell w.0.0) w.0.1 begins.front other (sym one.parts ∙ begins.parts)) [
          | inl longer ↦
              let same = first_same x.0 w.0.0 (spell_next x.0 x.1) (longer.0 ++ begins.more) h.0 one.ok (begins.begun ∙ ap (λ (t : List ℕ). t ++ begins.more) longer.1 ∙ append_assoc (spell w.0.0) longer.0 begins.more) in
              let b_fits : fits_next w.0.0 x.1 = subst (λ (a : A). fits_next a x.1) same.0 h.1 in
              let begun : spell_next w.0.0 x.1 ≡ longer.0 ++ begins.more = ap (λ (a : A). spell_next a x.1) (sym same.0) ∙ same.1 in
              (next w.0.0 one.ok).longest w.0.1 left f x.1 other b_fits (record { front = longer.0; more = begins.more; parts = longer.2; begun = begun })
          | inr shorter ↦ omega (arith, short, ap length shorter.2, length-append shorter.0 w.0.1)
        ]
  ]

  pub pair_format : IsFormat (λ x. spell x.0 ++ spell_next x.0 x.1) (λ x. fits x.0 × fits_next x.0 x.1) (pair p q)
  pair_format =
      let s = (next first.sample.value first.sample.ok).sample in
      record {
        sample = record { value = (first.sample.value, s.value); ok = (first.sample.ok, s.ok) };
        takes = pair_takes;
        again = pair_again;
        viable = pair_viable;
        longest = pair_longest;
      }

-- ---- seen as something else

-- a value that maps to b
pub record Source {A B : Type 0} (f : A → B) (spell : A → List ℕ) (fits : A → Type 0) (seen : B → List ℕ) (b : B) : Type 0 where
  pub value : A
  pub ok : fits value
  pub same : f value ≡ b
  pub spelled : seen b ≡ spell value

-- f maps values that fit to values that fit, with the same encodings
pub record SameSpelling {A B : Type 0} (f : A → B) (spell : A → List ℕ) (fits : A → Type 0) (seen : B → List ℕ) (holds : B → Type 0) : Type 0 where
  pub there : (a : A) → fits a → holds (f a) × (seen (f a) ≡ spell a)
  pub back : (b : B) → holds b → Source f spell fits seen b

module _ {A B : Type 0} (f : A → B) (spell : A → List ℕ) (fits : A → Type 0) (p : Reads A) (seen : B → List ℕ) (holds : B → Type 0) (first : IsFormat spell fits p) (same : SameSpelling f spell fits seen holds) where
  abbrev seen_as : A → Reads B
  seen_as a left = Ok (f a, left)

  map_takes : (bytes : List ℕ) (b : B) (left : List ℕ) → read_map f p bytes ≡ Ok (b, left) → Stands seen holds bytes b left
  map_takes bytes b left e =
      let w = went_on (p bytes) seen_as (b, left) e in
      let value = same_value (f w.0.0) b w.0.1 left w.2 in
      let end = same_left (f w.0.0) b w.0.1 left w.2 in
      let one = first.takes bytes w.0.0 w.0.1 w.1 in
      let t = same.there w.0.0 one.ok in
      let parts : bytes ≡ seen (f w.0.0) ++ w.0.1 = one.parts ∙ ap (λ (t : List ℕ). t ++ w.0.1) (sym t.1) in
      subst (λ (y : B). Stands seen holds bytes y left) value (subst (λ (l : List ℕ). Stands seen holds bytes (f w.0.0) l) end (record { ok = t.0; parts = parts }))

  map_again : (b : B) (left : List ℕ) → holds b → read_map f p (seen b ++ left) ≡ Ok (b, left)
  map_again b left h =
      let s = same.back b h in
      ap (λ (t : List ℕ). read_map f p (t ++ left)) s.spelled ∙ ap (λ (r : Read A). go_on r seen_as) (first.again s.value left s.ok) ∙ ap (λ (y : B). done y left) s.same

  map_fails : (bytes left : List ℕ) → read_map f p bytes ≡ Err left → p bytes ≡ Err left
  map_fails bytes left e = elim (stopped (p bytes) seen_as left e) [
    | inl f ↦ f
    | inr s ↦ absurd cc
  ]

  map_viable : (bytes left : List ℕ) → read_map f p bytes ≡ Err left → Viable seen holds bytes left
  map_viable bytes left e =
      let v = first.viable bytes left (map_fails bytes left e) in
      let t = same.there v.value v.ok in
      record { value = f v.value; ok = t.0; begins = record { front = v.begins.front; more = v.begins.more; parts = v.begins.parts; begun = t.1 ∙ v.begins.begun } }

  map_longest : (bytes left : List ℕ) → read_map f p bytes ≡ Err left → (b : B) (other : List ℕ) → holds b → Begins bytes other (seen b) → length left ≤ length other
  map_longest bytes left e b other h begins =
      let s = same.back b h in
      first.longest bytes left (map_fails bytes left e) s.value other s.ok (record { front = begins.front; more = begins.more; parts = begins.parts; begun = sym s.spelled ∙ begins.begun })

  pub map_format : IsFormat seen holds (read_map f p)
  map_format = record {
    sample = record { value = f first.sample.value; ok = (same.there first.sample.value first.sample.ok).0 };
    takes = map_takes;
    again = map_again;
    viable = map_viable;
    longest = map_longest;
  }

-- the same values, by another condition and with the same encoding
pub alike : {A : Type 0} (spell other_spell : A → List ℕ) (fits other : A → Type 0) (p : Reads A) → IsFormat spell fits p → ((a : A) → fits a → other a × (spell a ≡ other_spell a)) → ((a : A) → other a → fits a × (other_spell a ≡ spell a)) → IsFormat other_spell other p
alike spell other_spell fits other p first there back = record {
  sample = record { value = first.sample.value; ok = (there first.sample.value first.sample.ok).0 };
  takes = λ bytes a left e.
      let one = first.takes bytes a left e in
      let t = there a one.ok in
      record { ok = t.0; parts = one.parts ∙ ap (λ (w : List ℕ). w ++ left) t.1 };
  again = λ a left h.
      let b = back a h in
      ap (λ (w : List ℕ). p (w ++ left)) b.1 ∙ first.again a left b.0;
  viable = λ bytes left e.
      let v = first.viable bytes left e in
      let t = there v.value v.ok in
      record { value = v.value; ok = t.0; begins = record { front = v.begins.front; more = v.begins.more; parts = v.begins.parts; begun = sym t.1 ∙ v.begins.begun } };
  longest = λ bytes left e a other h begins.
      let b = back a h in
      first.longest bytes left e a other b.0 (record { front = begins.front; more = begins.more; parts = begins.parts; begun = sym b.1 ∙ begins.begun });
}

-- ---- a given number of items

module _ {A : Type 0} (spell : A → List ℕ) (fits : A → Type 0) (p : Reads A) (first : IsFormat spell fits p) where
  abbrev so_many : ℕ → List A → Type 0
  so_many n xs = (length xs ≡ n) × AllByRecursion fits xs

  none_at_all : (xs : List A) → so_many 0 xs → xs ≡ []
  none_at_all xs h = nil_from_length xs h.0

  one_before : (n : ℕ) → SameSpelling put_before (λ x. spell x.0 ++ flat_map spell x.1) (λ x. fits x.0 × so_many n x.1) (flat_map spell) (so_many (suc n))
  one_before n = record { there = λ x h. ((ap suc h.1.0, (h.0, h.1.1)), refl); back = back }
    where
      back : (xs : List A) → so_many (suc n) xs → Source put_before (λ x. spell x.0 ++ flat_map spell x.1) (λ x. fits x.0 × so_many n x.1) (flat_map spell) xs
      back [] h = absurd (omega (arith, h.0))
      back (x ∷ xs) h = record { value = (x, xs); ok = (h.1.0, (omega (arith, h.0), h.1.1)); same = refl; spelled = refl }

  pub items_format : (n : ℕ) → IsFormat (flat_map spell) (λ xs. (length xs ≡ n) × AllByRecursion fits xs) (items n p)
  unfolding items
  items_format zero = record {
    sample = record { value = []; ok = (refl, tt) };
    takes = λ bytes xs left e. let none = same_value [] xs bytes left e in record { ok = subst (so_many 0) none (refl, tt); parts = same_left [] xs bytes left e ∙ ap (λ (ys : List A). flat_map spell ys ++ left) none };
    again = λ xs left h. let none = none_at_all xs h in ap (λ (ys : List A). done [] (flat_map spell ys ++ left)) none ∙ ap (λ (ys : List A). done ys left) (sym none);
    viable = λ bytes left e. absurd cc;
    longest = λ bytes left e xs other h begins. absurd cc;
  }
  items_format (suc n) = map_format put_before (λ x. spell x.0 ++ flat_map spell x.1) (λ x. fits x.0 × so_many n x.1) (pair p (λ a. items n p)) (flat_map spell) (so_many (suc n))
      (pair_format spell fits p (λ a. flat_map spell) (λ a. so_many n) (λ a. items n p) first (λ a h. items_format n))
      (one_before n)

  module _ (spell_count : ℕ → List ℕ) (counts : ℕ → Type 0) (count : Reads ℕ) (number : IsFormat spell_count counts count) where
    -- a count that fits, and that many items that fit
    pub listed_format : IsFormat (λ xs. spell_count (length xs) ++ flat_map spell xs) (λ xs. counts (length xs) × AllByRecursion fits xs) (counted_list count p)
    listed_format = map_format second (λ x. spell_count x.0 ++ flat_map spell x.1) (λ x. counts x.0 × so_many x.0 x.1) (pair count (λ n. items n p)) (λ xs. spell_count (length xs) ++ flat_map spell xs) (λ xs. counts (length xs) × AllByRecursion fits xs)
        (pair_format spell_count counts count (λ n. flat_map spell) so_many (λ n. items n p) number (λ n h. items_format n))
        (record {
          there = λ x h. ((subst counts (sym h.1.0) h.0, h.1.1), ap (λ (n : ℕ). spell_count n ++ flat_map spell x.1) h.1.0);
          back = λ xs h. record { value = (length xs, xs); ok = (h.0, (refl, h.1)); same = refl; spelled = refl };
        })
