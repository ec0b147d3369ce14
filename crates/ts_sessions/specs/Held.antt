-- What a session holds, and that it fits the state of its store.
use Rattle.std.specs.Prelude.{◌≡◌, ℕ, ◌+◌, ◌≤◌, Bool, true, false, not, ◌||◌, List, [], ◌∷◌, ◌++◌, map, Option, Some, None, IsTrue, ⊤}
use Rattle.std.specs.List.{AllByRecursion}
use Rattle.ts_model.specs.declared.events.Op.{Op}
use Rattle.ts_model.specs.History.{History, position, prefix, Begins}
use Rattle.ts_model.specs.Allowed.{all_allowed}
use Rattle.ts_model.specs.Timely.{has_room}
use Rattle.ts_model.specs.Pending.{pending}
use Rattle.ts_model.specs.States.{State, stands_still}
use Rattle.ts_model.specs.declared.refreshes.Pending.{Pending}
use Rattle.ts_model.specs.declared.refreshes.Pending.TheVariants.{Waiting, Finished, Unknown}
use Rattle.stmt_check.specs.Sound.{IsQueue}
use Rattle.ts_sessions.specs.declared.blocks.Block.{Block as BlockKind}
use Rattle.ts_sessions.specs.declared.blocks.Block.TheVariants.{Outside, Write as WriteBlock, Read as ReadBlock}
use Rattle.ts_sessions.specs.declared.blocks.Open.{Open}
use Rattle.ts_sessions.specs.declared.blocks.Open.TheVariants.{Nothing, Write, Read}
use Rattle.ts_sessions.specs.declared.sessions.Session.{Session}
use Rattle.ts_sessions.specs.declared.sessions.Snapshot.{Snapshot}
use Rattle.ts_sessions.specs.Places.{Block, none, writing, reading, Places}
use Rattle.ts_model.specs.declared.snapshots.Shown.{Ghosts as Shown}
use Rattle.stmt_syntax.specs.Limits.{longest_input}

-- ---- session state

-- the block in the session state, of the block that a session is in
abbrev pub block_of : {T : Type 0} → Open T → Block
block_of Nothing = none
block_of (Write queue) = writing queue.ops queue.bytes
block_of (Read at shot) = reading at

-- the refreshes that snapshots are held for, each with the position of its snapshot
abbrev pub positions : {J : Type 0} → List (ℕ × Snapshot J) → List (ℕ × ℕ)
positions entries = map (λ e. (e.0, e.1.at)) entries

-- the state of a session
abbrev pub places_in : {T J : Type 0} → Session T J → Places
places_in s = record { block = block_of s.block; cut = s.cut; held = positions s.held.entries }

-- a session has the same state as before
pub record Carries {T J : Type 0} (old new : Session T J) : Type 0 where
  pub block : new.block ≡ old.block
  pub cut : new.cut ≡ old.cut
  pub held : new.held.entries ≡ old.held.entries

-- the bytes of the texts whose operations are queued in a block
abbrev pub bytes_queued : Block → ℕ
bytes_queued none = 0
bytes_queued (writing ops bytes) = bytes
bytes_queued (reading at) = 0

-- the bytes of the texts whose operations are queued in the block of a session
abbrev pub waiting_bytes : {T J : Type 0} → Session T J → ℕ
waiting_bytes s = bytes_queued (places_in s).block

-- only a write block queues operations
abbrev pub WaitsInside : BlockKind → ℕ → Type 0
WaitsInside Outside n = n ≡ 0
WaitsInside WriteBlock n = ⊤
WaitsInside ReadBlock n = n ≡ 0

-- a block with one more queued operation, from a text of this many bytes
abbrev pub open_with : {T : Type 0} → Op → ℕ → Open T → Open T
open_with op more Nothing = Nothing
open_with op more (Write queue) = Write (record { ops = queue.ops ++ op ∷ []; bytes = queue.bytes + more })
open_with op more (Read at shot) = Read at shot

-- at most how many bytes the texts may have: those of all input
abbrev pub most_queued : ℕ
most_queued = longest_input

-- ---- what fits a state

-- a store continued from a state: its history is the same or longer, and if it had stopped, it still has
pub record GoesOn (old new : State) : Type 0 where
  pub begins : Begins old.history new.history
  pub still : IsTrue (stands_still old) → IsTrue (stands_still new)

-- the snapshot of a read block is that of the history at which the block began. The queue of a write block can be
-- committed
abbrev pub HoldsBlock : {T : Type 0} → (T → History → Type 0) → Open T → History → Type 0
HoldsBlock stands Nothing h = ⊤
HoldsBlock stands (Write queue) h = IsQueue h queue.bytes queue.ops × (queue.bytes ≤ most_queued)
HoldsBlock stands (Read at shot) h = stands shot (prefix h at) × (at ≤ position h) × IsTrue (all_allowed (prefix h at))

-- a refresh was finished
abbrev pub is_finished : Pending → Bool
is_finished (Waiting n) = false
is_finished (Finished f) = true
is_finished Unknown = false

-- no refresh with this number can be finished any more: it was finished, or the store has stopped, or its history is
-- full
abbrev pub is_lost : State → ℕ → Bool
is_lost s c = is_finished (pending s.history c) || (stands_still s || not (has_room s.history))

-- a job fits the history, and is that of a snapshot at this position for this refresh
abbrev pub IsJobOf : {T J : Type 0} → Shown T J → ℕ → ℕ → History → J → Type 0
IsJobOf shown c at h job = shown.fits job h × (shown.cut_of job ≡ c) × (shown.snap_of job ≡ at)

-- what a session holds of a snapshot fits the state of the store. If a store has taken its job, the refresh can't be
-- finished any more
abbrev pub HoldsJob : {T J : Type 0} → Shown T J → State → ℕ → ℕ → Option J → Type 0
HoldsJob shown s c at None = IsTrue (is_lost s c)
HoldsJob shown s c at (Some job) = IsJobOf shown c at s.history job

-- each snapshot that a session holds fits the state of the store
abbrev pub HoldsSnapshots : {T J : Type 0} → Shown T J → State → List (ℕ × Snapshot J) → Type 0
HoldsSnapshots shown s entries = AllByRecursion (λ e. HoldsJob shown s e.0 e.1.at e.1.job) entries

-- what a session holds fits the state of its store
pub record HoldsOf {T J : Type 0} (shown : Shown T J) (session : Session T J) (s : State) : Type 0 where
  pub block : HoldsBlock shown.stands session.block s.history
  pub snapshots : HoldsSnapshots shown s session.held.entries
