-- Lists of partial aggregates joined place by place.
use Rattle.std.proofs.Common.{◌≡◌, ℕ, zero, suc, ◌+◌, ◌<◌, ◌^◌, List, [], ◌∷◌, ◌++◌, length, get_or, set, take, drop, sym, refl, ap, ◌∙◌, subst, arith, add-one}
use Rattle.std.specs.List.{AllByRecursion}
use Rattle.std.proofs.lemmas.List.{take_all, take_more}
use Rattle.std.proofs.lemmas.List.Elements.{All-from_recursion, length_all_zip, AllZip-get_or}
use Rattle.partial_agg.specs.Summaries.{Summary, summary_of_both}
use Rattle.group_fold.specs.Merging.{joined_parts, PartsFit}

pub length-joined_parts : (ps qs : List Summary) → length ps ≡ length qs → length (joined_parts ps qs) ≡ length ps
length-joined_parts [] qs e = refl
length-joined_parts (p ∷ ps) [] e = absurd (omega (arith, e))
length-joined_parts (p ∷ ps) (q ∷ qs) e = let h : length ps ≡ length qs = omega (arith, e) in ap suc (length-joined_parts ps qs h)

joined_parts-at : (ps qs : List Summary) (k : ℕ) (d e f : Summary) → k < length ps → k < length qs → get_or (joined_parts ps qs) k f ≡ summary_of_both (get_or ps k d) (get_or qs k e)
joined_parts-at [] qs k d e f h i = absurd (omega arith)
joined_parts-at (p ∷ ps) [] k d e f h i = absurd (omega arith)
joined_parts-at (p ∷ ps) (q ∷ qs) zero d e f h i = refl
joined_parts-at (p ∷ ps) (q ∷ qs) (suc k) d e f h i = joined_parts-at ps qs k d e f (omega arith) (omega arith)

module _ {X : Type 0} where
  cut_set : (k : ℕ) (js ps : List X) (d : X) → k < length js → k < length ps → set (take k js ++ drop k ps) k (get_or js k d) ≡ take (suc k) js ++ drop (suc k) ps
  cut_set k [] ps d h i = absurd (omega arith)
  cut_set k (j ∷ js) [] d h i = absurd (omega arith)
  cut_set zero (j ∷ js) (p ∷ ps) d h i = refl
  cut_set (suc k) (j ∷ js) (p ∷ ps) d h i = ap (λ xs. j ∷ xs) (cut_set k js ps d (omega arith) (omega arith))

  cut_at : (k : ℕ) (js ps : List X) (d : X) → k < length js → k < length ps → get_or (take k js ++ drop k ps) k d ≡ get_or ps k d
  cut_at k [] ps d h i = absurd (omega arith)
  cut_at k (j ∷ js) [] d h i = absurd (omega arith)
  cut_at zero (j ∷ js) (p ∷ ps) d h i = refl
  cut_at (suc k) (j ∷ js) (p ∷ ps) d h i = cut_at k js ps d (omega arith) (omega arith)

  pub length-cut : (k : ℕ) (js ps : List X) → length js ≡ length ps → length (take k js ++ drop k ps) ≡ length ps
  length-cut zero js ps e = refl
  length-cut (suc k) [] [] e = refl
  length-cut (suc k) [] (p ∷ ps) e = absurd (omega (arith, e))
  length-cut (suc k) (j ∷ js) [] e = absurd (omega (arith, e))
  length-cut (suc k) (j ∷ js) (p ∷ ps) e = let h : length js ≡ length ps = omega (arith, e) in ap suc (length-cut k js ps h)

  pub cut_whole : (js ps : List X) → length js ≡ length ps → take (length js) js ++ drop (length js) ps ≡ js
  cut_whole [] [] e = refl
  cut_whole [] (p ∷ ps) e = absurd (omega (arith, e))
  cut_whole (j ∷ js) [] e = absurd (omega (arith, e))
  cut_whole (j ∷ js) (p ∷ ps) e = let h : length js ≡ length ps = omega (arith, e) in ap (λ xs. j ∷ xs) (cut_whole js ps h)

-- the part at place k, before it is joined
pub part_before : (k : ℕ) (ps qs now : List Summary) (d : Summary) → length ps ≡ length qs → now ≡ take k (joined_parts ps qs) ++ drop k ps → k < length ps → get_or now k d ≡ get_or ps k d
part_before k ps qs now d e is h =
    let many = length-joined_parts ps qs e in
    ap (λ xs. get_or xs k d) is ∙ cut_at k (joined_parts ps qs) ps d (omega (arith, many)) h

-- place k is joined
pub part_step : (k : ℕ) (ps qs now next : List Summary) (old new d e : Summary) → length ps ≡ length qs → now ≡ take k (joined_parts ps qs) ++ drop k ps → k < length ps → old ≡ get_or now k d → new ≡ summary_of_both old (get_or qs k e) → next ≡ set now k new → next ≡ take (k + 1) (joined_parts ps qs) ++ drop (k + 1) ps
part_step k ps qs now next old new d e same is h was made put =
    let many = length-joined_parts ps qs same in
    let at : old ≡ get_or ps k d = was ∙ part_before k ps qs now d same is h in
    let value : new ≡ get_or (joined_parts ps qs) k d = made ∙ ap (λ o. summary_of_both o (get_or qs k e)) at ∙ sym (joined_parts-at ps qs k d e d h (omega (arith, same))) in
    rw add-one (put ∙ ap (λ xs. set xs k new) is ∙ ap (set (take k (joined_parts ps qs) ++ drop k ps) k) value ∙ cut_set k (joined_parts ps qs) ps d (omega (arith, many)) h)

pub part_within : (k : ℕ) (ps qs now : List Summary) → length ps ≡ length qs → now ≡ take k (joined_parts ps qs) ++ drop k ps → k < length ps → k < length now
part_within k ps qs now same is h =
    let many = length-cut k (joined_parts ps qs) ps (length-joined_parts ps qs same) in
    rw is (rw many h)

-- a fact of all parts is true of the next one
pub part_holds : (P : Summary → Type 0) (k : ℕ) (ps qs now : List Summary) (old : Summary) → length ps ≡ length qs → now ≡ take k (joined_parts ps qs) ++ drop k ps → k < length ps → old ≡ get_or now k old → AllByRecursion P ps → P old
part_holds P k ps qs now old same is h was all =
    subst P (sym (was ∙ part_before k ps qs now old same is h)) (All-from_recursion P ps all k old h)

-- at the end all are joined
pub parts_whole : (k : ℕ) (ps qs now : List Summary) → length ps ≡ length qs → now ≡ take k (joined_parts ps qs) ++ drop k ps → k ≡ length ps → now ≡ joined_parts ps qs
parts_whole k ps qs now same is e =
    let many = length-joined_parts ps qs same in
    is ∙ ap (λ n. take n (joined_parts ps qs) ++ drop n ps) (e ∙ sym many) ∙ cut_whole (joined_parts ps qs) ps many

pub parts_fit-length : (ps qs : List Summary) → PartsFit ps qs → length ps ≡ length qs
parts_fit-length ps qs h = length_all_zip (λ p q. p.count + q.count < 2 ^ 62) ps qs h

-- the next two parts fit
pub part_room : (k : ℕ) (ps qs : List Summary) (mine theirs : Summary) → PartsFit ps qs → k < length ps → mine ≡ get_or ps k mine → theirs ≡ get_or qs k theirs → mine.count + theirs.count < 2 ^ 62
part_room k ps qs mine theirs fit h is are =
    subst (λ p. p.count + theirs.count < 2 ^ 62) (sym is) (subst (λ q. (get_or ps k mine).count + q.count < 2 ^ 62) (sym are) (AllZip-get_or (λ p q. p.count + q.count < 2 ^ 62) ps qs k mine theirs fit h))

-- one more of the joined parts
pub joined_more : (k : ℕ) (ps qs now : List Summary) (mine theirs both : Summary) → PartsFit ps qs → k < length ps → now ≡ take k (joined_parts ps qs) → mine ≡ get_or ps k mine → theirs ≡ get_or qs k theirs → both ≡ summary_of_both mine theirs → now ++ both ∷ [] ≡ take (k + 1) (joined_parts ps qs)
joined_more k ps qs now mine theirs both fit h so_far is are made =
    let same = parts_fit-length ps qs fit in
    let many = length-joined_parts ps qs same in
    let at : get_or (joined_parts ps qs) k both ≡ both =
    joined_parts-at ps qs k mine theirs both h (omega (arith, same)) ∙ (ap (λ p. summary_of_both p (get_or qs k theirs)) (sym is) ∙ (ap (summary_of_both mine) (sym are) ∙ sym made)) in
    ap (λ xs. xs ++ both ∷ []) so_far ∙ (ap (λ x. take k (joined_parts ps qs) ++ x ∷ []) (sym at) ∙ sym (take_more (joined_parts ps qs) k both (omega (arith, many))))

pub joined_all : (k : ℕ) (ps qs now : List Summary) → PartsFit ps qs → now ≡ take k (joined_parts ps qs) → k ≡ length ps → now ≡ joined_parts ps qs
joined_all k ps qs now fit so_far e =
    let many = length-joined_parts ps qs (parts_fit-length ps qs fit) in
    so_far ∙ take_all k (joined_parts ps qs) (omega (arith, e, many))
