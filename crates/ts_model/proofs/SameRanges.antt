-- Ranges that rise apart and hold the same buckets are the same. A function over all buckets of a span returns
-- what it returns over those buckets for which it returns anything.
use Rattle.std.proofs.Common.{◌≡◌, Bool, true, false, ◌||◌, List, [], ◌∷◌, ◌++◌, ℤ, pos, ◌+ℤ◌, ◌≤ℤ◌, ◌<ℤ◌, int_lt, sym, refl, ap, ◌∙◌, subst, arith}
use Rattle.std.specs.List.{AllByRecursion, flat_map}
use Rattle.std.specs.Ordering.{int_eq}
use Rattle.std.proofs.lemmas.Bool.{true≢false, or_left, or_right, or_from, both_ways}
use Rattle.std.proofs.lemmas.Bool.Decides.{Decides-int_eq}
use Rattle.std.proofs.lemmas.Int.{ints}
use Rattle.ts_bucket.specs.Bucket.{is_bucket}
use Rattle.ts_bucket.specs.Spans.{in_span}
use Rattle.ts_bucket.specs.declared.spans.Span.{Span}
use Rattle.ts_bucket.specs.declared.widths.Width.{Width}
use Rattle.ts_bucket.proofs.SpanLaws.{in_span-from_ends, in_span-ends}
use Rattle.ts_model.specs.Answers.{buckets_in}
use Rattle.ts_bucket.specs.Ranges.{lies_in, is_asked, IsWholeRange, RiseApart, AreRanges}
use Rattle.ts_model.proofs.RangeLaws.{among, RisingBuckets, rising-buckets_in, among-buckets_in}

-- ---- ranges that rise apart

-- the first range starts above t
abbrev StartsAbove : ℤ → List Span → Type 0
StartsAbove t [] = Unit {0}
StartsAbove t (s ∷ ss) = t <ℤ s.lo

apart_next : (s : Span) (ss : List Span) → RiseApart (s ∷ ss) → StartsAbove s.hi ss
apart_next s [] r = tt
apart_next s (t ∷ ss) r = r.0

apart_rest : (s : Span) (ss : List Span) → RiseApart (s ∷ ss) → RiseApart ss
apart_rest s [] r = tt
apart_rest s (t ∷ ss) r = r.1

-- a number at or below t lies in no range, if the first starts above t
lies_below : (w : Width) (found : List Span) (t c : ℤ) → AllByRecursion (IsWholeRange w) found → RiseApart found → StartsAbove t found → c ≤ℤ t → lies_in found c ≡ false
lies_below w [] t c whole rising above l = refl
lies_below w (s ∷ ss) t c whole rising above l =
    let start : t <ℤ s.lo = above in
    let some : s.lo <ℤ s.hi = whole.0.some in
    let out : in_span s c ≡ false = grind (arith, ints) in
    or_from _ _ out (lies_below w ss s.hi c whole.1 (apart_rest s ss rising) (apart_next s ss rising) (omega (arith, ints)))

-- numbers in ranges are at or above the start of the first
lies_from : (w : Width) (s : Span) (ss : List Span) (c : ℤ) → AllByRecursion (IsWholeRange w) (s ∷ ss) → RiseApart (s ∷ ss) → lies_in (s ∷ ss) c ≡ true → s.lo ≤ℤ c
lies_from w s ss c whole rising e =
    elim (int_lt c s.lo) as (λ b. int_lt c s.lo ≡ b → s.lo ≤ℤ c) [
      | true ↦ λ f.
          let below : c <ℤ s.lo = grind (arith, ints) in
          let some : s.lo <ℤ s.hi = whole.0.some in
          let out : in_span s c ≡ false = grind (arith, ints) in
          let none : lies_in (s ∷ ss) c ≡ false = or_from _ _ out (lies_below w ss s.hi c whole.1 (apart_rest s ss rising) (apart_next s ss rising) (omega (arith, ints))) in
          absurd (true≢false (sym e ∙ none))
      | false ↦ λ f. grind (arith, ints)
    ] refl

-- the start of the first range lies in it
lies_start : (w : Width) (s : Span) (ss : List Span) → IsWholeRange w s → lies_in (s ∷ ss) s.lo ≡ true
lies_start w s ss whole = let some : s.lo <ℤ s.hi = whole.some in or_left _ _ (in_span-from_ends s s.lo (omega (arith, ints)) some)

-- the end of the first range lies in none
lies_end : (w : Width) (s : Span) (ss : List Span) → AllByRecursion (IsWholeRange w) (s ∷ ss) → RiseApart (s ∷ ss) → lies_in (s ∷ ss) s.hi ≡ false
lies_end w s ss whole rising =
    let out : in_span s s.hi ≡ false = grind (arith, ints) in
    or_from _ _ out (lies_below w ss s.hi s.hi whole.1 (apart_rest s ss rising) (apart_next s ss rising) (omega (arith, ints)))

-- ---- the first ranges of two lists that hold the same buckets

abbrev HoldSame : Width → List Span → List Span → Type 0
HoldSame w a b = (c : ℤ) → is_bucket w c ≡ true → lies_in a c ≡ lies_in b c

module _ (w : Width) (s t : Span) (ss ts : List Span) (whole_s : AllByRecursion (IsWholeRange w) (s ∷ ss)) (whole_t : AllByRecursion (IsWholeRange w) (t ∷ ts)) (rising_s : RiseApart (s ∷ ss)) (rising_t : RiseApart (t ∷ ts)) (same : HoldSame w (s ∷ ss) (t ∷ ts)) where
  start_from : t.lo ≤ℤ s.lo
  start_from = lies_from w t ts s.lo whole_t rising_t (sym (same s.lo whole_s.0.starts) ∙ lies_start w s ss whole_s.0)

  -- the first range ends no earlier than the other's
  end_from : s.lo ≡ t.lo → t.hi ≤ℤ s.hi
  end_from starts =
      elim (int_lt s.hi t.hi) as (λ b. int_lt s.hi t.hi ≡ b → t.hi ≤ℤ s.hi) [
        | true ↦ λ e.
            let shorter : s.hi <ℤ t.hi = grind (arith, ints) in
            let some : s.lo <ℤ s.hi = whole_s.0.some in
            let inside : lies_in (t ∷ ts) s.hi ≡ true = or_left _ _ (in_span-from_ends t s.hi (omega (arith, ints)) shorter) in
            absurd (true≢false (sym inside ∙ sym (same s.hi whole_s.0.ends) ∙ lies_end w s ss whole_s rising_s))
        | false ↦ λ e. grind (arith, ints)
      ] refl

  -- the other ranges hold the same buckets
  rest_same : s ≡ t → HoldSame w ss ts
  rest_same q c bucket = by_cases (in_span s c) refl
    where
      outside : (x : Span) (xs : List Span) → AllByRecursion (IsWholeRange w) (x ∷ xs) → RiseApart (x ∷ xs) → in_span x c ≡ true → lies_in xs c ≡ false
      outside x xs whole rising e =
          let ends = in_span-ends x c e in
          let below : c <ℤ x.hi = ends.1 in
          lies_below w xs x.hi c whole.1 (apart_rest x xs rising) (apart_next x xs rising) (omega (arith, ints))

      by_cases : (b : Bool) → in_span s c ≡ b → lies_in ss c ≡ lies_in ts c
      by_cases true e = outside s ss whole_s rising_s e ∙ sym (outside t ts whole_t rising_t (ap (λ x. in_span x c) (sym q) ∙ e))
      by_cases false e =
          sym (ap (λ b. b || lies_in ss c) e) ∙ same c bucket ∙ ap (λ b. b || lies_in ts c) (ap (λ x. in_span x c) (sym q) ∙ e)

same_span : (s t : Span) → s.lo ≡ t.lo → s.hi ≡ t.hi → s ≡ t
same_span s t p q = λ i. record { lo = p i; hi = q i }

-- ranges that rise apart and hold the same buckets are the same
pub same_ranges : (w : Width) (a b : List Span) → AllByRecursion (IsWholeRange w) a → AllByRecursion (IsWholeRange w) b → RiseApart a → RiseApart b → HoldSame w a b → a ≡ b
same_ranges w [] [] wa wb ra rb same = refl
same_ranges w [] (t ∷ ts) wa wb ra rb same = absurd (true≢false (sym (same t.lo wb.0.starts ∙ lies_start w t ts wb.0)))
same_ranges w (s ∷ ss) [] wa wb ra rb same = absurd (true≢false (sym (lies_start w s ss wa.0) ∙ same s.lo wa.0.starts))
same_ranges w (s ∷ ss) (t ∷ ts) wa wb ra rb same =
    let back : HoldSame w (t ∷ ts) (s ∷ ss) = λ c bucket. sym (same c bucket) in
    let low : t.lo ≤ℤ s.lo = start_from w s t ss ts wa wb ra rb same in
    let high : s.lo ≤ℤ t.lo = start_from w t s ts ss wb wa rb ra back in
    let starts : s.lo ≡ t.lo = omega (arith, ints) in
    let long : t.hi ≤ℤ s.hi = end_from w s t ss ts wa wb ra rb same starts in
    let short : s.hi ≤ℤ t.hi = end_from w t s ts ss wb wa rb ra back (sym starts) in
    let ends : s.hi ≡ t.hi = omega (arith, ints) in
    let first : s ≡ t = same_span s t starts ends in
    let rest : ss ≡ ts = same_ranges w ss ts wa.1 wb.1 (apart_rest s ss ra) (apart_rest t ts rb) (rest_same w s t ss ts wa wb ra rb same first) in
    λ i. first i ∷ rest i

-- there is one list of maximal ranges
pub one_list_of_ranges : (w : Width) (starts : Span) (test : ℤ → Bool) (a b : List Span) → AreRanges w starts test a → AreRanges w starts test b → a ≡ b
one_list_of_ranges w starts test a b p q = same_ranges w a b p.whole q.whole p.rising q.rising (λ c bucket. p.exact c bucket ∙ sym (q.exact c bucket))

-- ---- functions over the buckets of a span

module _ {X : Type 0} (w : Width) (f : ℤ → List X) where
  -- buckets for which a function returns nothing have no effect
  nothing_given : (bs : List ℤ) → ((b : ℤ) → among b bs ≡ true → f b ≡ []) → flat_map f bs ≡ []
  nothing_given [] none = refl
  nothing_given (b ∷ bs) none =
      let here : int_eq b b ≡ true = (Decides-int_eq b b).1 refl in
      ap (λ xs. xs ++ flat_map f bs) (none b (or_left _ _ here)) ∙ nothing_given bs (λ c e. none c (or_right (int_eq b c) _ e))

  -- a number at or below `low` isn't one of the buckets above it
  none_below : (low c : ℤ) (bs : List ℤ) → RisingBuckets w low bs → c <ℤ low → among c bs ≡ false
  none_below low c [] r l = refl
  none_below low c (b ∷ bs) r l =
      let above : low ≤ℤ b = r.0 in
      let apart : b ≡ c → ⊥ = λ q. (let p : low ≤ℤ c = subst (λ x. low ≤ℤ x) q above in omega (arith, ints)) in
      let other : int_eq b c ≡ false = by_cases (int_eq b c) refl apart in
      or_from _ _ other (none_below (b +ℤ pos 1) c bs r.2 (omega (arith, ints)))
    where
      by_cases : {b c : ℤ} (x : Bool) → int_eq b c ≡ x → (b ≡ c → ⊥) → int_eq b c ≡ false
      by_cases {b} {c} true e apart = absurd (apart ((Decides-int_eq b c).0 e))
      by_cases false e apart = e

  -- a bucket in a rising list is at or above the start of the list
  from_low : (low c : ℤ) (bs : List ℤ) → RisingBuckets w low bs → among c bs ≡ true → low ≤ℤ c
  from_low low c bs r e =
      elim (int_lt c low) as (λ x. int_lt c low ≡ x → low ≤ℤ c) [
        | true ↦ λ l. absurd (true≢false (sym e ∙ none_below low c bs r (let below : c <ℤ low = grind (arith, ints) in below)))
        | false ↦ λ l. grind (arith, ints)
      ] refl

  -- one of a head and a tail, and not the head
  in_tail : (x c : ℤ) (xs : List ℤ) → (x ≡ c → ⊥) → among c (x ∷ xs) ≡ true → among c xs ≡ true
  in_tail x c xs apart e =
      elim (int_eq x c) as (λ b. int_eq x c ≡ b → (b || among c xs) ≡ true → among c xs ≡ true) [
        | true ↦ λ q _. absurd (apart ((Decides-int_eq x c).0 q))
        | false ↦ λ _ t. t
      ] refl e

  -- in neither a head nor a tail
  in_neither : (y c : ℤ) (ys : List ℤ) → (y ≡ c → ⊥) → among c ys ≡ false → among c (y ∷ ys) ≡ false
  in_neither y c ys apart e =
      elim (int_eq y c) as (λ b. int_eq y c ≡ b → (b || among c ys) ≡ false) [
        | true ↦ λ q. absurd (apart ((Decides-int_eq y c).0 q))
        | false ↦ λ _. e
      ] refl

  same_head : (x y : ℤ) (xs ys : List ℤ) → x ≡ y → RisingBuckets w (x +ℤ pos 1) xs → RisingBuckets w (y +ℤ pos 1) ys → ((b : ℤ) → among b (y ∷ ys) ≡ true → among b (x ∷ xs) ≡ true) → ((b : ℤ) → among b (x ∷ xs) ≡ true → among b (y ∷ ys) ≡ false → f b ≡ []) → (RisingBuckets w (x +ℤ pos 1) ys → ((b : ℤ) → among b ys ≡ true → among b xs ≡ true) → ((b : ℤ) → among b xs ≡ true → among b ys ≡ false → f b ≡ []) → flat_map f xs ≡ flat_map f ys) → flat_map f (x ∷ xs) ≡ flat_map f (y ∷ ys)
  same_head x y xs ys q rx ry within none rest =
      let ry' : RisingBuckets w (x +ℤ pos 1) ys = subst (λ z. RisingBuckets w (z +ℤ pos 1) ys) (sym q) ry in
      let tails : flat_map f xs ≡ flat_map f ys =
      rest ry'
      (λ b e. in_tail x b xs (λ p. (let l : (x +ℤ pos 1) ≤ℤ b = from_low (x +ℤ pos 1) b ys ry' e in omega (arith, ints))) (within b (or_right (int_eq y b) _ e)))
      (λ b e n. none b (or_right (int_eq x b) _ e) (in_neither y b ys (λ p. (let l : (x +ℤ pos 1) ≤ℤ b = from_low (x +ℤ pos 1) b xs rx e in omega (arith, ints))) n)) in
      λ i. f (q i) ++ tails i

  other_head : (x y : ℤ) (xs ys : List ℤ) → (x ≡ y → ⊥) → RisingBuckets w (x +ℤ pos 1) xs → is_bucket w y ≡ true → RisingBuckets w (y +ℤ pos 1) ys → ((b : ℤ) → among b (y ∷ ys) ≡ true → among b (x ∷ xs) ≡ true) → ((b : ℤ) → among b (x ∷ xs) ≡ true → among b (y ∷ ys) ≡ false → f b ≡ []) → (RisingBuckets w (x +ℤ pos 1) (y ∷ ys) → ((b : ℤ) → among b (y ∷ ys) ≡ true → among b xs ≡ true) → ((b : ℤ) → among b xs ≡ true → among b (y ∷ ys) ≡ false → f b ≡ []) → flat_map f xs ≡ flat_map f (y ∷ ys)) → flat_map f (x ∷ xs) ≡ flat_map f (y ∷ ys)
  other_head x y xs ys apart rx bucket ry within none rest =
      let y_in : among y xs ≡ true = in_tail x y xs apart (within y (or_left _ _ ((Decides-int_eq y y).1 refl))) in
      let above : (x +ℤ pos 1) ≤ℤ y = from_low (x +ℤ pos 1) y xs rx y_in in
      let not_x : among x (y ∷ ys) ≡ false = none_below (x +ℤ pos 1) x (y ∷ ys) (above, bucket, ry) (omega (arith, ints)) in
      ap (λ zs. zs ++ flat_map f xs) (none x (or_left _ _ ((Decides-int_eq x x).1 refl)) not_x)
      ∙ rest (above, bucket, ry)
      (λ b e. in_tail x b xs (λ p. true≢false (sym e ∙ subst (λ z. among z (y ∷ ys) ≡ false) p not_x)) (within b e))
      (λ b e n. none b (or_right (int_eq x b) _ e) n)

  -- over all buckets a function returns what it returns over some of them, if it returns nothing over the
  -- others
  pub flat_map_some : (low : ℤ) (all some : List ℤ) → RisingBuckets w low all → RisingBuckets w low some → ((b : ℤ) → among b some ≡ true → among b all ≡ true) → ((b : ℤ) → among b all ≡ true → among b some ≡ false → f b ≡ []) → flat_map f all ≡ flat_map f some
  flat_map_some low [] [] ra rs within none = refl
  flat_map_some low [] (y ∷ ys) ra rs within none = absurd (true≢false (sym (within y (or_left _ _ ((Decides-int_eq y y).1 refl)))))
  flat_map_some low (x ∷ xs) [] ra rs within none = nothing_given (x ∷ xs) (λ b e. none b e refl)
  flat_map_some low (x ∷ xs) (y ∷ ys) ra rs within none =
      elim (int_eq x y) as (λ b. int_eq x y ≡ b → flat_map f (x ∷ xs) ≡ flat_map f (y ∷ ys)) [
        | true ↦ λ e. same_head x y xs ys ((Decides-int_eq x y).0 e) ra.2 rs.2 within none (λ r i n. flat_map_some (x +ℤ pos 1) xs ys ra.2 r i n)
        | false ↦ λ e. other_head x y xs ys (λ q. both_ways (int_eq x y) e ((Decides-int_eq x y).1 q)) ra.2 rs.1 rs.2 within none (λ r i n. flat_map_some (x +ℤ pos 1) xs (y ∷ ys) ra.2 r i n)
      ] refl

-- the same over the buckets of a span: it is enough to visit rising requested buckets that include each one for
-- which the function returns something
pub flat_map-buckets_in : {X : Type 0} (w : Width) (f : ℤ → List X) (starts : Span) (some : List ℤ) → RisingBuckets w starts.lo some → ((b : ℤ) → among b some ≡ true → is_asked w starts b ≡ true) → ((b : ℤ) → is_asked w starts b ≡ true → among b some ≡ false → f b ≡ []) → flat_map f (buckets_in w starts) ≡ flat_map f some
flat_map-buckets_in w f starts some r within none =
    flat_map_some w f starts.lo (buckets_in w starts) some (rising-buckets_in w starts) r (λ b e. among-buckets_in w starts b ∙ within b e) (λ b e n. none b (sym (among-buckets_in w starts b) ∙ e) n)

each_alone : (bs : List ℤ) → flat_map (λ b. b ∷ []) bs ≡ bs
each_alone [] = refl
each_alone (b ∷ bs) = ap (λ cs. b ∷ cs) (each_alone bs)

-- buckets that rise and are the same numbers are the same list
pub same_buckets : (w : Width) (low : ℤ) (a b : List ℤ) → RisingBuckets w low a → RisingBuckets w low b → ((c : ℤ) → among c a ≡ among c b) → a ≡ b
same_buckets w low a b ra rb same =
    sym (each_alone a)
    ∙ flat_map_some w (λ c. c ∷ []) low a b ra rb (λ c e. same c ∙ e) (λ c e n. absurd (true≢false (sym e ∙ same c ∙ n)))
    ∙ each_alone b
