-- Laws of the position of the last delete of several versions.
use Rattle.std.proofs.Common.{◌≡◌, ℕ, true, false, Option, Some, None, List, [], ◌∷◌, ◌++◌, length, refl, sym, ◌∙◌, ap, arith}
use Rattle.std.specs.List.{filter}
use Rattle.std.specs.Prelude.{nat_le}
use Rattle.std.proofs.Math.Bool.{and-false}
use Rattle.ts_schema.specs.declared.rows.Row.{Row}
use Rattle.ts_schema.specs.declared.conditions.Test.{Test}
use Rattle.seg_rows.specs.declared.lives.Life.{Life}
use Rattle.seg_rows.specs.Lives.{all_died, with_lives}
use Rattle.seg_rows.specs.Versions.{Version, died_out, is_dead_at, later_death, visible_at, taken_at, latest_at}

later_death-assoc : (a b c : Option ℕ) → later_death a (later_death b c) ≡ later_death (later_death a b) c
later_death-assoc None b c = refl
later_death-assoc (Some p) None c = refl
later_death-assoc (Some p) (Some q) None = refl
later_death-assoc (Some p) (Some q) (Some r) = ap Some (omega arith)

later_death-first : (a : Option ℕ) → later_death (Some 0) a ≡ a
later_death-first None = refl
later_death-first (Some p) = ap Some (omega arith)

later_death-last : (a : Option ℕ) → later_death a (Some 0) ≡ a
later_death-last None = refl
later_death-last (Some p) = ap Some (omega arith)

-- one life more
pub death_push : (lives : List Life) (life : Life) → all_died (lives ++ life ∷ []) ≡ later_death (all_died lives) life.died
death_push [] life = later_death-last life.died ∙ sym (later_death-first life.died)
death_push (x ∷ lives) life = ap (later_death x.died) (death_push lives life) ∙ later_death-assoc x.died (all_died lives) life.died

-- the last delete of versions is that of their lives
pub died_out-lives : (rows : List Row) (lives : List Life) → length lives ≡ length rows → died_out (with_lives rows lives) ≡ all_died lives
died_out-lives [] [] e = refl
died_out-lives [] (l ∷ lives) e = absurd (omega (arith, e))
died_out-lives (r ∷ rows) [] e = absurd (omega (arith, e))
died_out-lives (r ∷ rows) (l ∷ lives) e = ap (later_death l.died) (died_out-lives rows lives (omega (arith, e)))

-- the last delete of two lists is the later of theirs
pub died_out-append : (xs ys : List Version) → died_out (xs ++ ys) ≡ later_death (died_out xs) (died_out ys)
died_out-append [] ys = sym (later_death-first (died_out ys))
died_out-append (v ∷ xs) ys = ap (later_death v.died) (died_out-append xs ys) ∙ later_death-assoc v.died (died_out xs) (died_out ys)

-- a version that is deleted at the later of two deletes is deleted at both
pub dead_apart : (p : ℕ) (a b : Option ℕ) → is_dead_at p (later_death a b) ≡ true → (is_dead_at p a ≡ true) × (is_dead_at p b ≡ true)
dead_apart p None b h = absurd (let no : false ≡ true = h in cc)
dead_apart p (Some a) None h = absurd (let no : false ≡ true = h in cc)
dead_apart p (Some a) (Some b) h = (grind (arith, h), grind (arith, h))

-- if all versions are deleted, none is visible
pub none_visible : (p : ℕ) (vs : List Version) → is_dead_at p (died_out vs) ≡ true → filter (visible_at p) vs ≡ []
none_visible p [] h = refl
none_visible p (v ∷ vs) h =
    let parts = dead_apart p v.died (died_out vs) h in
    let hidden : visible_at p v ≡ false = rw parts.0 (and-false (nat_le v.born p)) in
    rw hidden (none_visible p vs parts.1)

pub none_latest : (p : ℕ) (vs : List Version) → is_dead_at p (died_out vs) ≡ true → latest_at p vs ≡ None
none_latest p vs h = rw (none_visible p vs h) refl

-- and nothing is deleted
pub none_taken : (p : ℕ) (tests : List Test) (vs : List Version) → is_dead_at p (died_out vs) ≡ true → taken_at p tests vs ≡ []
none_taken p tests [] h = refl
none_taken p tests (v ∷ vs) h =
    let parts = dead_apart p v.died (died_out vs) h in
    let hidden : visible_at p v ≡ false = rw parts.0 (and-false (nat_le v.born p)) in
    rw hidden (none_taken p tests vs parts.1)
