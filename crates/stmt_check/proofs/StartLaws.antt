-- The starts requested are those that pass every test, and drop_chunks drops whole chunks.
use Rattle.std.proofs.Common.{◌≡◌, ◌∙◌, refl, sym, ap, ℕ, Bool, true, false, not, ◌&&◌, List, [], ◌∷◌, Some, None, ℤ, pos, ◌+ℤ◌, ◌≤ℤ◌, ◌<ℤ◌, int_le, int_lt, arith}
use Rattle.std.specs.Int.{int_min, int_max, int_rem_euclid}
use Rattle.std.specs.List.{list_all}
use Rattle.std.specs.Ordering.{int_eq}
use Rattle.std.proofs.lemmas.Bool.{and_parts}
use Rattle.std.proofs.lemmas.Bool.Decides.{same_from_decides}
use Rattle.std.proofs.lemmas.Int.{ints, clamps, by_lt_z}
use Rattle.std.proofs.Math.Bool.{and-true, and_assoc}
use Rattle.ts_bucket.specs.Chunks.{chunk_of, chunk_start}
use Rattle.ts_bucket.proofs.Remainders.{remainder_bounds, remainder-without, remainder-step, whole_apart}
use Rattle.ts_schema.specs.Conditions.{compares}
use Rattle.ts_schema.specs.declared.conditions.Cmp.{Cmp}
use Rattle.ts_schema.specs.declared.conditions.Cmp.TheVariants.{Eq, Ne, Lt, Le, Gt, Ge, IsNull, NotNull}
use Rattle.ts_model.specs.declared.views.ViewDef.{ViewDef}
use Rattle.ts_catalog.specs.Columns.{view_column_of}
use Rattle.stmt_syntax.specs.declared.statements.NamedTest.{NamedTest}
use Rattle.stmt_check.specs.Queries.{bounds_start, below_all, below_of, from_all, from_of, is_bucket_column, next, starts_refusal}
use Rattle.ts_bucket.specs.WholeSpans.{least, greatest}
use Rattle.stmt_check.specs.Refusals.{refusal_if}
use Rattle.stmt_check.specs.Subject.{start_passes, StartsPassEach, DropsWholeChunks}
use Rattle.stmt_check.proofs.PassedLaws.{neither, has_to_be}

-- ---- starts

-- a start passes a test if and only if it is between its bounds
one_test : (c : Cmp) (n b : ℤ) → bounds_start c ≡ true → least ≤ℤ b → b <ℤ greatest → (int_le (from_of c n) b && int_lt b (below_of c n)) ≡ compares c (Some b) n
one_test Eq n b e low high = same_from_decides {P = b ≡ n} (int_le n b && int_lt b (next n)) (int_eq b n) ((λ t. let l : n ≤ℤ b = grind (arith, ints) in let u : b <ℤ next n = grind (arith, ints) in omega (arith, ints, clamps)), (λ s. let l : n ≤ℤ b = omega (arith, ints) in let u : b <ℤ next n = omega (arith, ints, clamps) in grind (arith, ints))) ((λ t. grind (arith, ints)), (λ s. grind (arith, ints)))
one_test Ne n b e low high = absurd cc
one_test Lt n b e low high = let l : int_le least b ≡ true = grind (arith, ints) in ap (λ x. x && int_lt b n) l
one_test Le n b e low high = same_from_decides {P = b ≤ℤ n} (int_le least b && int_lt b (next n)) (int_le b n) ((λ t. let u : b <ℤ next n = grind (arith, ints) in omega (arith, ints, clamps)), (λ s. let u : b <ℤ next n = omega (arith, ints, clamps) in grind (arith, ints))) ((λ t. grind (arith, ints)), (λ s. grind (arith, ints)))
one_test Gt n b e low high = same_from_decides {P = n <ℤ b} (int_le (next n) b && int_lt b greatest) (int_lt n b) ((λ t. let l : next n ≤ℤ b = grind (arith, ints) in omega (arith, ints, clamps)), (λ s. let l : next n ≤ℤ b = omega (arith, ints, clamps) in grind (arith, ints))) ((λ t. grind (arith, ints)), (λ s. grind (arith, ints)))
one_test Ge n b e low high = let u : int_lt b greatest ≡ true = grind (arith, ints) in ap (λ x. int_le n b && x) u ∙ and-true (int_le n b)
one_test IsNull n b e low high = absurd cc
one_test NotNull n b e low high = absurd cc

-- b is at or above the greater of two numbers if it is at or above both, and below the lesser if it is below
-- both
above_max : (x y b : ℤ) → int_le (int_max x y) b ≡ (int_le x b && int_le y b)
above_max x y b = same_from_decides {P = (x ≤ℤ b) × (y ≤ℤ b)} (int_le (int_max x y) b) (int_le x b && int_le y b) ((λ t. let l : int_max x y ≤ℤ b = grind (arith, ints) in (omega (arith, ints, clamps), omega (arith, ints, clamps))), (λ s. let p : x ≤ℤ b = s.0 in let q : y ≤ℤ b = s.1 in let l : int_max x y ≤ℤ b = omega (arith, ints, clamps) in grind (arith, ints))) ((λ t. (grind (arith, ints), grind (arith, ints))), (λ s. let p : x ≤ℤ b = s.0 in let q : y ≤ℤ b = s.1 in grind (arith, ints)))

below_min : (x y b : ℤ) → int_lt b (int_min x y) ≡ (int_lt b x && int_lt b y)
below_min x y b = same_from_decides {P = (b <ℤ x) × (b <ℤ y)} (int_lt b (int_min x y)) (int_lt b x && int_lt b y) ((λ t. let l : b <ℤ int_min x y = grind (arith, ints) in (omega (arith, ints, clamps), omega (arith, ints, clamps))), (λ s. let p : b <ℤ x = s.0 in let q : b <ℤ y = s.1 in let l : b <ℤ int_min x y = omega (arith, ints, clamps) in grind (arith, ints))) ((λ t. (grind (arith, ints), grind (arith, ints))), (λ s. let p : b <ℤ x = s.0 in let q : b <ℤ y = s.1 in grind (arith, ints)))

regroup : (l f u v a : Bool) → (f && v) ≡ a → ((l && f) && (u && v)) ≡ ((l && u) && a)
regroup true true true true a e = e
regroup true true true false a e = e
regroup true true false true a e = refl
regroup true true false false a e = refl
regroup true false true v a e = e
regroup true false false v a e = refl
regroup false f u v a e = refl

-- between all bounds
between : (pos : ℕ) (def : ViewDef) (lo hi : ℤ) (tests : List NamedTest) (b : ℤ) → starts_refusal pos def tests ≡ None → least ≤ℤ b → b <ℤ greatest
    → (int_le (from_all lo tests) b && int_lt b (below_all hi tests)) ≡ ((int_le lo b && int_lt b hi) && list_all (start_passes b) tests)
between p def lo hi [] b e low high = sym (and-true (int_le lo b && int_lt b hi))
between p def lo hi (t ∷ tests) b e low high =
    let both = neither (refusal_if p 8 (not (is_bucket_column (view_column_of def t.col) && bounds_start t.cmp))) _ e in
    let bounds = (and_parts _ (bounds_start t.cmp) (has_to_be p 8 0 (is_bucket_column (view_column_of def t.col) && bounds_start t.cmp) both.0)).1 in
    let from = from_of t.cmp t.num in
    let below = below_of t.cmp t.num in
    between p def (int_max lo from) (int_min hi below) tests b both.1 low high
    ∙ ap (λ x. (x && int_lt b (int_min hi below)) && list_all (start_passes b) tests) (above_max lo from b)
    ∙ ap (λ x. ((int_le lo b && int_le from b) && x) && list_all (start_passes b) tests) (below_min hi below b)
    ∙ ap (λ x. x && list_all (start_passes b) tests) (regroup (int_le lo b) (int_le from b) (int_lt b hi) (int_lt b below) (start_passes b t) (one_test t.cmp t.num b bounds low high))
    ∙ and_assoc (int_le lo b && int_lt b hi) (start_passes b t) (list_all (start_passes b) tests)

-- an end that isn't below the start excludes nothing
ends : (lo hi b : ℤ) → (int_le lo b && int_lt b (int_max lo hi)) ≡ (int_le lo b && int_lt b hi)
ends lo hi b = same_from_decides {P = (lo ≤ℤ b) × (b <ℤ hi)} (int_le lo b && int_lt b (int_max lo hi)) (int_le lo b && int_lt b hi) ((λ t. let l : lo ≤ℤ b = grind (arith, ints) in let u : b <ℤ int_max lo hi = grind (arith, ints) in (l, omega (arith, ints, clamps))), (λ s. let l : lo ≤ℤ b = s.0 in let u : b <ℤ hi = s.1 in let m : b <ℤ int_max lo hi = omega (arith, ints, clamps) in grind (arith, ints))) ((λ t. (grind (arith, ints), grind (arith, ints))), (λ s. let l : lo ≤ℤ b = s.0 in let u : b <ℤ hi = s.1 in grind (arith, ints)))

pub starts_pass_each : StartsPassEach
starts_pass_each p def tests b e low high =
    let all : (int_le least b && int_lt b greatest) ≡ true = grind (arith, ints) in
    ends (from_all least tests) (below_all greatest tests) b ∙ between p def least greatest tests b e low high
    ∙ ap (λ x. x && list_all (start_passes b) tests) all

-- ---- chunks

-- a time lies before the chunk of a bound if and only if its chunk ends at or before the bound
chunk_ends : (interval bound t : ℤ) → pos 0 <ℤ interval → int_lt t (chunk_start interval bound) ≡ int_le (chunk_of interval t).hi bound
chunk_ends d n t h =
    let of_t = remainder_bounds t d h in
    let of_n = remainder_bounds n d h in
    let t_low : pos 0 ≤ℤ int_rem_euclid t d = of_t.0 in
    let t_high : int_rem_euclid t d <ℤ d = of_t.1 in
    let n_low : pos 0 ≤ℤ int_rem_euclid n d = of_n.0 in
    let n_high : int_rem_euclid n d <ℤ d = of_n.1 in
    let whole_t = remainder-without t d h in
    let whole_n = remainder-without n d h in
    let whole_next : int_rem_euclid (chunk_start d t +ℤ d) d ≡ pos 0 = remainder-step (chunk_start d t) d h ∙ whole_t in
    same_from_decides {P = (chunk_start d t +ℤ d) ≤ℤ n} (int_lt t (chunk_start d n)) (int_le (chunk_of d t).hi n) (
      (λ less.
          let before : t <ℤ chunk_start d n = grind (arith, ints) in
          let apart : (chunk_start d t +ℤ d) ≤ℤ chunk_start d n = whole_apart (chunk_start d t) (chunk_start d n) d h whole_t whole_n (omega (arith, ints)) in
          omega (arith, ints)),
      (λ end.
          let high : (chunk_start d t +ℤ d) ≤ℤ n = end in
          let at_most : (chunk_start d t +ℤ d) ≤ℤ chunk_start d n = by_lt_z (chunk_start d n) (chunk_start d t +ℤ d)
          (λ below. let far : (chunk_start d n +ℤ d) ≤ℤ (chunk_start d t +ℤ d) = whole_apart (chunk_start d n) (chunk_start d t +ℤ d) d h whole_n whole_next below in absurd (omega (arith, ints)))
          (λ above. above) in
          let before : t <ℤ chunk_start d n = omega (arith, ints) in
          grind (arith, ints)),
    )
    ((λ t. grind (arith, ints)), (λ end. let high : (chunk_start d t +ℤ d) ≤ℤ n = end in grind (arith, ints)))

pub drops_whole_chunks : DropsWholeChunks
drops_whole_chunks interval bound row wide =
    let one : pos 1 ≤ℤ interval = wide.0 in
    and-true (int_lt row.at (chunk_start interval bound)) ∙ chunk_ends interval bound row.at (let positive : pos 0 <ℤ interval = omega (arith, ints) in positive)
