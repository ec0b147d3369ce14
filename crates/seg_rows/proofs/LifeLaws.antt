-- Laws of rows with their lives.
use Rattle.std.proofs.Common.{◌≡◌, ℕ, Option, suc, zero, ◌<◌, ◌+◌, List, [], ◌∷◌, ◌++◌, length, get_or, take, map, replicate, refl, sym, ◌∙◌, ap, subst, arith}
use Rattle.std.proofs.lemmas.List.{length-replicate, take_more, length-take-le, length-append, map-append, append_assoc}
use Rattle.ts_schema.specs.declared.rows.Row.{Row}
use Rattle.seg_rows.specs.declared.lives.Life.{Life}
use Rattle.ts_bucket.specs.Spans.{HullValue}
use Rattle.seg_rows.specs.Hulls.{hull_of, joined_hull}
use Rattle.seg_rows.specs.Versions.{Version, newborn, rows_of, later_death}
use Rattle.seg_rows.proofs.DeathLaws.{died_out-append, died_out-lives}
use Rattle.seg_rows.proofs.HullLaws.{hull_of-append}
use Rattle.seg_rows.specs.declared.lives.Lives.{Lives}
use Rattle.seg_rows.specs.declared.lives.Lives.TheVariants.{Together, Born, Each}
use Rattle.seg_rows.specs.Lives.{AreUnharmed, all_died, Covers, IsSealed, lives_of, life_from, with_life, with_lives, versions_of}

pub length-with_lives : (rows : List Row) (lives : List Life) → length lives ≡ length rows → length (with_lives rows lives) ≡ length rows
length-with_lives [] lives e = refl
length-with_lives (r ∷ rows) [] e = absurd (omega (arith, e))
length-with_lives (r ∷ rows) (l ∷ lives) e = ap suc (length-with_lives rows lives (omega (arith, e)))

-- version i is row i with life i
pub get_or-with_lives : (rows : List Row) (lives : List Life) (i : ℕ) (r : Row) (l : Life) (d : Version)
    → length lives ≡ length rows → i < length rows → get_or (with_lives rows lives) i d ≡ with_life (get_or rows i r) (get_or lives i l)
get_or-with_lives [] lives i r l d e h = absurd (omega arith)
get_or-with_lives (x ∷ rows) [] i r l d e h = absurd (omega (arith, e))
get_or-with_lives (x ∷ rows) (y ∷ lives) zero r l d e h = refl
get_or-with_lives (x ∷ rows) (y ∷ lives) (suc i) r l d e h = get_or-with_lives rows lives i r l d (omega (arith, e)) (omega arith)

-- rows that were inserted together
pub with_lives-together : (rows : List Row) (p : ℕ) → with_lives rows (replicate (length rows) (life_from p)) ≡ map (newborn p) rows
with_lives-together [] p = refl
with_lives-together (r ∷ rows) p = ap (λ vs. newborn p r ∷ vs) (with_lives-together rows p)

pub with_lives-append : (rows more : List Row) (lives others : List Life)
    → length lives ≡ length rows → with_lives (rows ++ more) (lives ++ others) ≡ with_lives rows lives ++ with_lives more others
with_lives-append [] more [] others e = refl
with_lives-append [] more (l ∷ lives) others e = absurd (omega (arith, e))
with_lives-append (r ∷ rows) more [] others e = absurd (omega (arith, e))
with_lives-append (r ∷ rows) more (l ∷ lives) others e =
    ap (λ vs. with_life r l ∷ vs) (with_lives-append rows more lives others (omega (arith, e)))

-- one row more, with its life
pub with_lives-more : (rows : List Row) (lives : List Life) (i : ℕ) (r : Row) (l : Life)
    → i < length rows → length lives ≡ i → with_lives (take (i + 1) rows) (lives ++ l ∷ []) ≡ with_lives (take i rows) lives ++ with_life (get_or rows i r) l ∷ []
with_lives-more rows lives i r l h e =
    ap (λ rs. with_lives rs (lives ++ l ∷ [])) (take_more rows i r h)
    ∙ with_lives-append (take i rows) (get_or rows i r ∷ []) lives (l ∷ []) (e ∙ sym (length-take-le i rows (omega arith)))

-- there are as many versions as rows
pub length-versions_of : (rows : List Row) (lives : Lives) → Covers (length rows) lives → length (versions_of rows lives) ≡ length rows
length-versions_of rows lives h = length-with_lives rows (lives_of (length rows) lives) h

-- the version of a row and a life that were read
pub version_read : (rows : List Row) (lives : Lives) (i : ℕ) (r : Row) (l : Life) (d : Version)
    → Covers (length rows) lives → i < length rows → r ≡ get_or rows i r → l ≡ get_or (lives_of (length rows) lives) i l → get_or (versions_of rows lives) i d ≡ with_life r l
version_read rows lives i r l d covers h e f =
    get_or-with_lives rows (lives_of (length rows) lives) i r l d covers h ∙ (ap (λ x. with_life x (get_or (lives_of (length rows) lives) i l)) (sym e) ∙ ap (with_life r) (sym f))

-- versions that were inserted together, or for which only the insertions are stored, are not deleted
together_unharmed : (n p : ℕ) → AreUnharmed (replicate n (life_from p))
together_unharmed zero p = refl
together_unharmed (suc n) p = ap (λ ls. life_from p ∷ ls) (together_unharmed n p)

born_unharmed : (births : List ℕ) → AreUnharmed (map life_from births)
born_unharmed [] = refl
born_unharmed (p ∷ births) = ap (λ ls. life_from p ∷ ls) (born_unharmed births)

pub plain_together : (lives : Lives) (p : ℕ) → lives ≡ Together p → (n : ℕ) → AreUnharmed (lives_of n lives)
plain_together lives p is n = subst (λ (ls : Lives). AreUnharmed (lives_of n ls)) (sym is) (together_unharmed n p)

pub plain_born : (lives : Lives) (births : List ℕ) → lives ≡ Born births → (n : ℕ) → AreUnharmed (lives_of n lives)
plain_born lives births is n = subst (λ (ls : Lives). AreUnharmed (lives_of n ls)) (sym is) (born_unharmed births)

-- one of unharmed lives
unharmed_at : (lives : List Life) (i : ℕ) (l : Life) → AreUnharmed lives → i < length lives → life_from (get_or lives i l).born ≡ get_or lives i l
unharmed_at [] i l plain h = absurd (omega (arith, h))
unharmed_at (x ∷ lives) zero l plain h = let head : life_from x.born ≡ x = cc in head
unharmed_at (x ∷ lives) (suc i) l plain h = let tail : AreUnharmed lives = cc in unharmed_at lives i l tail (omega arith)

-- one more insertion
pub births_more : (done : List ℕ) (lives before : List Life) (i : ℕ) (l : Life) → AreUnharmed lives → i < length lives → l ≡ get_or lives i l → map life_from done ≡ before ++ take i lives
    → map life_from (done ++ l.born ∷ []) ≡ before ++ take (i + 1) lives
births_more done lives before i l plain h is e =
    let this : life_from l.born ≡ l = ap (λ (x : Life). life_from x.born) is ∙ (unharmed_at lives i l plain h ∙ sym is) in
    map-append life_from done (l.born ∷ [])
    ∙ (ap (λ ls. ls ++ life_from l.born ∷ []) e
    ∙ (ap (λ x. (before ++ take i lives) ++ x ∷ []) this
    ∙ (append_assoc before (take i lives) (l ∷ [])
    ∙ ap (λ ls. before ++ ls) (ap (λ x. take i lives ++ x ∷ []) is ∙ sym (take_more lives i l h)))))

-- the rows of rows with lives
pub rows_of-with_lives : (rows : List Row) (lives : List Life) → length lives ≡ length rows → rows_of (with_lives rows lives) ≡ rows
rows_of-with_lives [] lives e = refl
rows_of-with_lives (r ∷ rows) [] e = absurd (omega (arith, e))
rows_of-with_lives (r ∷ rows) (l ∷ lives) e = ap (λ rs. r ∷ rs) (rows_of-with_lives rows lives (omega (arith, e)))

pub rows_of-versions : (rows : List Row) (lives : Lives) → Covers (length rows) lives → rows_of (versions_of rows lives) ≡ rows
rows_of-versions rows lives covers = rows_of-with_lives rows (lives_of (length rows) lives) covers

-- two sealed lists, concatenated
pub joined_sealed : (first second rows : List Row) (l m lives : Lives) (g h hull : Option HullValue) (d e dead : Option ℕ) → IsSealed first l g d → IsSealed second m h e → rows ≡ first ++ second
    → ((n : ℕ) → lives_of n lives ≡ lives_of (length first) l ++ lives_of (length second) m) → hull ≡ joined_hull g h → dead ≡ later_death d e → IsSealed rows lives hull dead
joined_sealed first second rows l m lives g h hull d e dead one two rows_are lives_are hull_is dead_is =
    let covers_one : length (lives_of (length first) l) ≡ length first = one.covers in
    let covers_two : length (lives_of (length second) m) ≡ length second = two.covers in
    let many : length rows ≡ length first + length second = ap length rows_are ∙ length-append first second in
    let versions : versions_of rows lives ≡ versions_of first l ++ versions_of second m =
    ap (with_lives rows) (lives_are (length rows)) ∙ (ap (λ rs. with_lives rs (lives_of (length first) l ++ lives_of (length second) m)) rows_are
    ∙ with_lives-append first second (lives_of (length first) l) (lives_of (length second) m) covers_one) in
    record {
      covers = ap length (lives_are (length rows)) ∙ (length-append (lives_of (length first) l) (lives_of (length second) m) ∙ omega (arith, covers_one, covers_two, many));
      hull_is = rw (rows_are, hull_of-append first second, ← one.hull_is, ← two.hull_is) hull_is;
      dead_is = rw (versions, died_out-append (versions_of first l) (versions_of second m), ← one.dead_is, ← two.dead_is) dead_is;
    }

-- rows that were inserted together
pub sealed_together : (rows : List Row) (n p : ℕ) (hull : Option HullValue) (dead : Option ℕ) → n ≡ length rows → hull ≡ hull_of rows → dead ≡ all_died (replicate n (life_from p))
    → IsSealed rows (Together p) hull dead
sealed_together rows n p hull dead many hull_is dead_is = record {
  covers = length-replicate (length rows) (life_from p);
  hull_is = hull_is;
  dead_is = dead_is ∙ (ap (λ k. all_died (replicate k (life_from p))) many ∙ sym (died_out-lives rows (replicate (length rows) (life_from p)) (length-replicate (length rows) (life_from p))));
}

-- the same rows with other lives
pub sealed_anew : (rows : List Row) (lives : Lives) (after : List Life) (hull : Option HullValue) (old dead : Option ℕ) → IsSealed rows lives hull old → length after ≡ length rows
    → dead ≡ all_died after → IsSealed rows (Each after) hull dead
sealed_anew rows lives after hull old dead sealed many dead_is = record {
  covers = many;
  hull_is = sealed.hull_is;
  dead_is = dead_is ∙ sym (died_out-lives rows after many);
}
