-- A disk in memory, as the list of acts on it.
use Rattle.std.specs.Prelude.{◌≡◌, ℕ, ◌≤◌, List, [], ◌∷◌, ◌++◌, length, take, Option, Some, Result, MatchResult, ⊤}
use Rattle.ts_schema.specs.Counts.{one_more}
use Rattle.ts_disk.specs.CrashImage.{State, IsImage, at_rest, file_after_write}
use Rattle.ts_disk.specs.declared.disk_acts.Piece.{Piece}
use Rattle.ts_disk.specs.declared.disk_acts.Act.{Act}
use Rattle.ts_disk.specs.declared.disk_acts.Act.TheVariants.{Write, Sync}

-- the bytes that it had at first, the acts since, and the number of calls that failed
pub record Recorded : Type 0 where
  pub first : List ℕ
  pub acts : List Act
  pub faults : ℕ

-- the state after one act
abbrev pub after : State → Act → State
after s (Write piece) =
    record { synced = s.synced; writes = s.writes ++ piece ∷ []; now = file_after_write s.now piece.at piece.bytes }
after s Sync = at_rest s.now

abbrev pub state_after : State → List Act → State
state_after s [] = s
state_after s (act ∷ acts) = state_after (after s act) acts

-- the disk after a write at a place
abbrev pub written_at : ℕ → List ℕ → Recorded → Recorded
written_at at piece disk = record disk { acts = disk.acts ++ Write (record { at = at; bytes = piece }) ∷ [] }

-- the state in which a disk is
abbrev pub state_of : Recorded → State
state_of disk = state_after (at_rest disk.first) disk.acts

-- the bytes that a read returns
abbrev pub content : Recorded → List ℕ
content disk = (state_of disk).now

-- the bytes are known
abbrev pub known_bytes : Recorded → Option (List ℕ)
known_bytes disk = Some (content disk)

-- a crash may leave exactly what the model says
abbrev pub leaves : Recorded → List ℕ → Type 0
leaves disk c = IsImage (state_of disk) c

-- the moment is the number of acts
abbrev pub moment : Recorded → ℕ
moment disk = length disk.acts

-- a crash at some moment from t on might have left this
pub record WasImage (disk : Recorded) (t : ℕ) (c : List ℕ) : Type 0 where
  pub when : ℕ
  pub from : t ≤ when
  pub past : when ≤ length disk.acts
  pub image : IsImage (state_after (at_rest disk.first) (take when disk.acts)) c

-- a call that succeeded did this, and one that failed is counted and did nothing
abbrev pub PerformsAct : {T E : Type 0} → Act → Recorded → Result T E → Recorded → Type 0
PerformsAct act old result new =
    MatchResult result (λ _. new ≡ record old { acts = old.acts ++ act ∷ [] })
    (λ _. new ≡ record old { faults = one_more old.faults })

-- a call that succeeded did nothing, and one that failed is counted
abbrev pub Asks : {T E : Type 0} → Recorded → Result T E → Recorded → Type 0
Asks old result new = MatchResult result (λ _. new ≡ old) (λ _. new ≡ record old { faults = one_more old.faults })

-- each write begins at or before the end of the bytes
abbrev pub begins_within : State → Act → Type 0
begins_within s (Write piece) = piece.at ≤ length s.now
begins_within s Sync = ⊤

abbrev pub all_within : State → List Act → Type 0
all_within s [] = ⊤
all_within s (act ∷ acts) = begins_within s act × all_within (after s act) acts

-- the writes among these acts
abbrev pub pieces_of : List Act → List Piece
pieces_of [] = []
pieces_of (Write piece ∷ acts) = piece ∷ pieces_of acts
pieces_of (Sync ∷ acts) = pieces_of acts
