-- The positions of a segment's versions, as they are stored.
use Rattle.std.specs.Prelude.{◌≡◌, ℕ, Bool, not, ◌&&◌, nat_le, List, [], ◌∷◌, length, map, replicate, Option, Some, None}
use Rattle.ts_schema.specs.declared.rows.Row.{Row}
use Rattle.seg_rows.specs.Versions.{Version, died_out, is_dead_at, later_death}
use Rattle.seg_rows.specs.Hulls.{hull_of}
use Rattle.ts_bucket.specs.Spans.{HullValue}
use Rattle.seg_rows.specs.declared.lives.Life.{Life}
use Rattle.seg_rows.specs.declared.lives.Lives.{Lives}
use Rattle.seg_rows.specs.declared.lives.Lives.TheVariants.{Together, Born, Each}

-- inserted at p and never deleted
abbrev pub life_from : ℕ → Life
life_from p = record { born = p; died = None }

-- such a version is visible at p
abbrev pub is_alive_at : ℕ → Life → Bool
is_alive_at p life = nat_le life.born p && not (is_dead_at p life.died)

-- the lives of n rows
abbrev pub lives_of : ℕ → Lives → List Life
lives_of n (Together p) = replicate n (life_from p)
lives_of n (Born births) = map life_from births
lives_of n (Each lives) = lives

-- none of these is deleted
abbrev pub AreUnharmed : List Life → Type 0
AreUnharmed lives = map life_from (map (λ life. life.born) lives) ≡ lives

-- the position at which the last of these was deleted, if all were; if there is none, the first position
abbrev pub all_died : List Life → Option ℕ
all_died [] = Some 0
all_died (life ∷ lives) = later_death life.died (all_died lives)

-- there is a life for each of n rows
abbrev pub Covers : ℕ → Lives → Type 0
Covers n lives = length (lives_of n lives) ≡ n

-- these lives are kept, for any number of rows
abbrev pub Keeps : Lives → List Life → Type 0
Keeps lives kept = (n : ℕ) → lives_of n lives ≡ kept

-- a row with its life
abbrev pub with_life : Row → Life → Version
with_life row life = record { row = row; born = life.born; died = life.died }

-- rows with their lives
abbrev pub with_lives : List Row → List Life → List Version
with_lives [] lives = []
with_lives (row ∷ rows) [] = []
with_lives (row ∷ rows) (life ∷ lives) = with_life row life ∷ with_lives rows lives

-- the versions of these rows
abbrev pub versions_of : List Row → Lives → List Version
versions_of rows lives = with_lives rows (lives_of (length rows) lives)

-- these are the lives of these rows, the hull of their times, and the position of the last delete
pub record IsSealed (rows : List Row) (lives : Lives) (hull : Option HullValue) (dead : Option ℕ) : Type 0 where
  pub covers : Covers (length rows) lives
  pub hull_is : hull ≡ hull_of rows
  pub dead_is : dead ≡ died_out (versions_of rows lives)
