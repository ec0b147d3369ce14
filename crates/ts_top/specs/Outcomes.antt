-- What the top call has written, kept and counted, by how it ended.
use Rattle.std.specs.Prelude.{◌≡◌, ◌⊎◌, ℕ, ◌<◌, ◌≤◌, true, false, List, [], ◌∷◌, ◌++◌, Option, length, take, ⊤, IfSome, IsSomeAnd}
use Rattle.std.specs.Io.KnownBytes.{Appends}
use Rattle.ts_io.specs.Whole.{AppendsPart}
use Rattle.ts_io.specs.declared.limits.TheConstants.{INPUT_LIMIT}
use Rattle.ts_model.specs.History.{History, Begins}
use Rattle.ts_schema.specs.Counts.{raised_by}
use Rattle.ts_store.specs.Images.{HasHeader, IsDurable}
use Rattle.ts_store.specs.Stands.{Stands, IsDamagedAt}
use Rattle.script_run.specs.Runs.{ReadWhole, executed_lines}
use Rattle.ts_top.specs.Scripts.{replies_of, reply_after, history_after, rows_read, is_faulted}
use Rattle.ts_top.specs.declared.endings.Status.{Status}
use Rattle.ts_top.specs.declared.endings.Status.TheVariants.{Done, Refused, BadWords, ReadFault, WriteFault, DiskFault, Damaged, NoMemory, InputLong}

-- what is outside of the call, before it and after it, if it is known: the bytes that the source has left, the bytes
-- that the sink has written, and those that reads of the disk give. `reads` is how many stored rows the call read
pub record Outside : Type 0 where
  pub input : Option (List ℕ)
  pub rest : Option (List ℕ)
  pub written_before : Option (List ℕ)
  pub written : Option (List ℕ)
  pub file_before : Option (List ℕ)
  pub file : Option (List ℕ)
  pub reads : ℕ

-- ---- the journal

-- a file represents a history between two others
pub record StandsBetween (from to : History) (file : List ℕ) : Type 0 where
  pub history : History
  pub stands : Stands file history
  pub began : Begins from history
  pub within : Begins history to

-- what a crash since the call began might have left of the new disk, if all bytes that the old disk gave were on it
abbrev pub LeftAfter :
    {D : Type 0} → (D → Option (List ℕ)) → (D → List ℕ → Type 0) → (D → ℕ) → (D → ℕ → List ℕ → Type 0) → D → D
    → List ℕ → Type 0
LeftAfter bytes may_leave moment left_since old new c = IsDurable bytes may_leave old × left_since new (moment old) c

-- what a crash at any moment of the call might have left represents a history from the opening one up to this one
abbrev pub ImagesUpTo : (List ℕ → Type 0) → History → History → Type 0
ImagesUpTo left opening to = (c : List ℕ) → left c → StandsBetween opening to c

-- reads give a file that represents this history
abbrev pub Holds : Option (List ℕ) → History → Type 0
Holds file h = IsSomeAnd file (λ bytes. Stands bytes h)

-- reads give a file that represents a history between two others
abbrev pub HoldsBetween : Option (List ℕ) → History → History → Type 0
HoldsBetween file from to = IsSomeAnd file (StandsBetween from to)

-- ---- scripts, over a history
-- What these records say about reads of the journal is true if the disk reported its bytes at first. What they say
-- about crashes is true if all of these bytes were on the disk.

-- all lines were run, and their replies written
pub record RanWhole (told : Type 0) (left : List ℕ → Type 0) (h : History) (lines : List (List ℕ))
    (o : Outside) : Type 0 where
  pub wrote : Appends o.written_before o.written (replies_of h lines)
  pub holds : told → Holds o.file (history_after h lines)
  pub images : ImagesUpTo left h (history_after h lines)
  pub counted : o.reads ≡ raised_by (rows_read h lines) 0

-- some first lines were run and their replies written, and the others not run. They read at most as many stored rows
-- as all lines do
pub record RanBefore (told : Type 0) (left : List ℕ → Type 0) (h : History) (lines : List (List ℕ))
    (o : Outside) : Type 0 where
  pub done : List (List ℕ)
  pub rest : List (List ℕ)
  pub split : lines ≡ done ++ rest
  pub ran : RanWhole told left h done o
  pub most : o.reads ≤ raised_by (rows_read h lines) 0

-- the replies to some first lines were written, and nothing of the next one's, whose first events may exist
pub record RanWithin (told : Type 0) (left : List ℕ → Type 0) (h : History) (lines : List (List ℕ))
    (o : Outside) : Type 0 where
  pub done : List (List ℕ)
  pub rest : List (List ℕ)
  pub split : lines ≡ done ++ rest
  pub wrote : Appends o.written_before o.written (replies_of h done)
  pub holds : told → HoldsBetween o.file (history_after h done) (history_after h (done ++ take 1 rest))
  pub images : ImagesUpTo left h (history_after h (done ++ take 1 rest))
  pub counted : raised_by (rows_read h done) 0 ≤ o.reads

-- the replies to some first lines were written, and the next line was run, with a part of its reply written
pub record RanWriting (told : Type 0) (left : List ℕ → Type 0) (h : History) (lines : List (List ℕ))
    (o : Outside) : Type 0 where
  pub done : List (List ℕ)
  pub line : List ℕ
  pub rest : List (List ℕ)
  pub part : List ℕ
  pub todo : List ℕ
  pub split : lines ≡ done ++ line ∷ rest
  pub reply : reply_after h done line ≡ part ++ todo
  pub wrote : Appends o.written_before o.written (replies_of h done ++ part)
  pub holds : told → Holds o.file (history_after h (done ++ line ∷ []))
  pub images : ImagesUpTo left h (history_after h (done ++ line ∷ []))
  pub counted : o.reads ≡ raised_by (rows_read h (done ++ line ∷ [])) 0

-- ---- the opening history

-- the call ran on the history that the journal represented
pub record Over (o : Outside) (Ran : History → Type 0) : Type 0 where
  pub opening : History
  pub stood : IfSome o.file_before (λ file. Stands file opening)
  pub ran : Ran opening

-- the same for a script, if the source reports its bytes
abbrev pub OverScript : Outside → (History → List ℕ → Type 0) → Type 0
OverScript o Ran = Over o (λ h. IfSome o.input (Ran h))

-- the call read nothing, printed nothing, left the disk as it was, and read no stored row
abbrev pub Untouched : Type 0 → Type 0 → Type 0 → Outside → Type 0
Untouched unread unprinted kept o = unread × unprinted × kept × (o.reads ≡ 0)

-- the disk failed during the write of the journal's header. Reads give a file that represents the opening history as
-- before, and so does each crash image
pub record HeaderFailed (told : Type 0) (left : List ℕ → Type 0) (before after : Option (List ℕ)) : Type 0 where
  pub opening : History
  pub stood : IfSome before (λ file. Stands file opening)
  pub holds : told → Holds after opening
  pub images : (c : List ℕ) → left c → Stands c opening

-- the call read nothing, printed nothing, and read no stored row. The disk stayed as it was, or failed during the write
-- of the header
abbrev pub NotBegun : Type 0 → (List ℕ → Type 0) → Type 0 → Type 0 → Type 0 → Outside → Type 0
NotBegun told left unread unprinted kept o =
    unread × unprinted × (kept ⊎ HeaderFailed told left o.file_before o.file) × (o.reads ≡ 0)

-- the file is damaged at this place, so it represents no history
abbrev pub IsDamaged : ℕ → Outside → Type 0
IsDamaged at o = IfSome o.file_before (λ file. IsDamagedAt file at)

-- what a run with this end has done
abbrev pub RanTo : Status → Type 0 → (List ℕ → Type 0) → Type 0 → Type 0 → Type 0 → Outside → Type 0
RanTo Done told left unread unprinted kept o =
    OverScript o
    (λ h input. ReadWhole input o.rest × (is_faulted h input ≡ false) × RanWhole told left h (executed_lines input) o)
RanTo Refused told left unread unprinted kept o =
    OverScript o
    (λ h input. ReadWhole input o.rest × (is_faulted h input ≡ true) × RanWhole told left h (executed_lines input) o)
RanTo BadWords told left unread unprinted kept o = ⊥
RanTo ReadFault told left unread unprinted kept o =
    OverScript o (λ h input. RanBefore told left h (executed_lines input) o)
RanTo WriteFault told left unread unprinted kept o =
    OverScript o (λ h input. RanWriting told left h (executed_lines input) o)
RanTo DiskFault told left unread unprinted kept o =
    NotBegun told left unread unprinted kept o
    ⊎ OverScript o (λ h input. RanWithin told left h (executed_lines input) o)
RanTo (Damaged at) told left unread unprinted kept o = Untouched unread unprinted kept o × IsDamaged at o
RanTo NoMemory told left unread unprinted kept o =
    Untouched unread unprinted kept o ⊎ OverScript o (λ h input. RanWithin told left h (executed_lines input) o)
RanTo InputLong told left unread unprinted kept o =
    OverScript o (λ h input. (INPUT_LIMIT < length input) × RanWhole told left h (executed_lines input) o)

-- P is true if the call opened the journal, unless it ended with a disk fault or out of memory
abbrev pub IfWentOn : Status → Type 0 → Type 0
IfWentOn BadWords P = ⊤
IfWentOn DiskFault P = ⊤
IfWentOn (Damaged at) P = ⊤
IfWentOn NoMemory P = ⊤
IfWentOn other P = P

-- the header is on the disk before the source is read or an image is written, if the disk reported its bytes at first
abbrev pub HeaderAfter : Status → Type 0 → Option (List ℕ) → Type 0
HeaderAfter status told file = IfWentOn status (told → IsSomeAnd file HasHeader)

-- the text of a history was printed, or a part of it
abbrev pub Printed : (History → List ℕ) → Outside → Type 0
Printed text o = Over o (λ h. Appends o.written_before o.written (text h))

abbrev pub PrintedPart : (History → List ℕ) → Outside → Type 0
PrintedPart text o = Over o (λ h. AppendsPart o.written_before o.written (text h))

-- what a call that prints this text of its journal has printed, by how it ended
abbrev pub PrintedTo : (History → List ℕ) → Status → Type 0 → Outside → Type 0
PrintedTo text Done unprinted o = Printed text o
PrintedTo text WriteFault unprinted o = PrintedPart text o
PrintedTo text DiskFault unprinted o = unprinted
PrintedTo text (Damaged at) unprinted o = unprinted × IsDamaged at o
PrintedTo text NoMemory unprinted o = unprinted ⊎ PrintedPart text o
PrintedTo text other unprinted o = ⊥
