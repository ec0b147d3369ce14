-- The state that a session keeps between lines, and the result of a line.
use Rattle.std.specs.Prelude.{ℕ, List, [], ◌∷◌, length, Option, Some, None}
use Rattle.std.specs.Ordering.{nat_cmp}
use Rattle.std.specs.Map.{lookup, remove_entry}
use Rattle.std.specs.BTreeMap.{insert_entry, is_at}
use Rattle.ts_model.specs.declared.events.Op.{Op}
use Rattle.ts_model.specs.declared.outcomes.Refusal.{Refusal}
use Rattle.ts_sessions.specs.declared.blocks.Block.{Block as BlockKind}
use Rattle.ts_sessions.specs.declared.blocks.Block.TheVariants.{Outside, Write, Read}
use Rattle.result_text.specs.declared.replies.Said.{Said}
use Rattle.result_text.specs.declared.replies.Said.TheVariants as said

-- the block that a session is in: none; a write block with its queue, and how many bytes the texts of the queued
-- operations have; or a read block at a position
pub data Block : Type 0 where
  none : Block
  writing : List Op → ℕ → Block
  reading : ℕ → Block

-- the kind of the block
abbrev pub block_kind : Block → BlockKind
block_kind none = Outside
block_kind (writing ops bytes) = Write
block_kind (reading at) = Read

-- the operations queued in a block
abbrev pub queue_in : Block → List Op
queue_in none = []
queue_in (writing ops bytes) = ops
queue_in (reading at) = []

-- how many operations are queued, if it is a write block
abbrev pub queue_count : Block → Option ℕ
queue_count none = None
queue_count (writing ops bytes) = Some (length ops)
queue_count (reading at) = None

-- session state: what a session keeps between lines
pub record Places : Type 0 where
  pub block : Block
  -- the last refresh that it cut
  pub cut : Option ℕ
  -- the refreshes that it holds a snapshot for, each with the position of the snapshot, in rising order
  pub held : List (ℕ × ℕ)

-- the state of a session at its first line
abbrev pub no_places : Places
no_places = record { block = none; cut = None; held = [] }

-- the position of the snapshot that is held for a refresh
abbrev pub held_for : {X : Type 0} → ℕ → List (ℕ × X) → Option X
held_for cut held = lookup (is_at (nat_cmp cut)) held

-- the session is in this block now
abbrev pub enters : Block → Places → Places
enters b p = record p { block = b }

-- the session has cut this refresh last
abbrev pub cuts : ℕ → Places → Places
cuts c p = record p { cut = Some c }

-- the session holds a snapshot at this position for a refresh, instead of one that it held
abbrev pub holds : ℕ → ℕ → Places → Places
holds c at p = record p { held = insert_entry nat_cmp p.held c at }

-- the session gives up the snapshot that it holds for a refresh
abbrev pub gives_up : ℕ → Places → Places
gives_up c p = record p { held = remove_entry (is_at (nat_cmp c)) p.held }

-- the result of a line
pub record Turn (P : Type 0) : Type 0 where
  -- the state of its session after it
  pub places : P
  -- the lines of its reply
  pub said : List Said
  -- how many stored rows it read
  pub reads : ℕ

-- a turn with this session state and one line
abbrev pub turns : {P : Type 0} → P → Said → Turn P
turns p s = record { places = p; said = s ∷ []; reads = 0 }

-- the session stays as it is, and the statement is refused
abbrev pub refuses : {P : Type 0} → P → Refusal → Turn P
refuses p r = turns p (said.Fault r)
