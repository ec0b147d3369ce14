-- Reading a journal frame by frame.
use Rattle.std.specs.Prelude.{◌≡◌, ◌≢◌, ◌⊎◌, ℕ, ◌+◌, ◌^◌, ◌<◌, ◌≤◌, Bool, true, false, List, [], ◌∷◌, ◌++◌, Option, Some, length, take, drop, slice_index, ⊤}
use Rattle.std.specs.Int.{w32, from_le_bytes, to_le_bytes}
use Rattle.ts_schema.specs.Faults.{Rose}
use Rattle.ts_disk.specs.Disk.{IsRange}
use Rattle.ts_disk.specs.declared.disks.TheConstants.{MOST_BYTES}
use Rattle.txn_journal.specs.Calls.{LiesAs}
use Rattle.txn_journal.specs.Contents.{Content, content_from, is_base, nothing, version_of}
use Rattle.txn_journal.specs.Frames.{AllFit, Fits, Follows, NoBaseBehind, StandsFor, IsDamaged, IsShort, front, magic, header}
use Rattle.txn_journal.specs.Places.{IsReading}
use Rattle.txn_journal.specs.declared.read_start.ReadStart.{ReadStart}
use Rattle.txn_journal.specs.declared.heads.Head.{Head}
use Rattle.txn_journal.specs.declared.heads.Head.TheVariants.{Closed, Frame, Short}
use Rattle.txn_journal.specs.declared.heads.Start.{Start}
use Rattle.txn_journal.specs.declared.heads.Start.TheVariants.{Bare as StartsBare, Journal as StartsJournal, Foreign as StartsForeign}
use Rattle.txn_journal.specs.declared.journals.JournalState.{JournalState}
use Rattle.txn_journal.specs.declared.journals.JournalState.TheVariants.{Bare, Ready, Still}
use Rattle.txn_journal.specs.declared.readers.Next.{Next}
use Rattle.txn_journal.specs.declared.readers.Next.TheVariants.{Base, Payload, End, Damaged, DiskFault, NoMemory}
use Rattle.txn_journal.specs.declared.openings.FileStart.{FileStart}
use Rattle.txn_journal.specs.declared.readers.PayloadRead.{PayloadRead}
use Rattle.txn_journal.specs.declared.versions.Version.{Version}
use Rattle.txn_journal.specs.declared.versions.Version.TheVariants.{One}
use Rattle.txn_journal.specs.declared.readers.PayloadRead.TheVariants.{Done as Taking, DiskFault as TakeFault, NoMemory as TakeNothing}

-- ---- what is read

-- the beginning of a file
abbrev pub StartsAs : Start → List ℕ → Type 0
StartsAs StartsBare file = (length file ≤ 9) × (file ≢ header)
StartsAs (StartsJournal version) file =
    (take 7 file ≡ magic) × (version ≡ version_of (slice_index file 7)) × ((9 < length file) ⊎ (file ≡ header))
StartsAs StartsForeign file = (9 < length file) × (take 7 file ≢ magic)

-- the commit byte at a place isn't 1; or it is 1, and a whole frame of this length follows, with this byte after its
-- length; or it is 1, and too little follows
abbrev pub IsHead : Head → List ℕ → ℕ → Type 0
IsHead Closed file at = slice_index file at ≢ 1
IsHead (Frame n first) file at =
    (slice_index file at ≡ 1) × (5 + n ≤ length (drop (at + 1) file)) × (n < 2 ^ 32)
    × (to_le_bytes w32 n ≡ take 4 (drop (at + 1) file)) × (first ≡ slice_index file (at + 5))
IsHead Short file at = (slice_index file at ≡ 1) × IsShort (drop (at + 1) file)

-- a journal begins with the frames of these payloads, up to the commit byte at this place
pub record HasFrames (file : List ℕ) (mark at : ℕ) (payloads : List (List ℕ)) : Type 0 where
  pub before : take at file ≡ front mark payloads
  pub place : at ≡ length (front mark payloads)
  pub long : (9 < length file) ⊎ (file ≡ header)
  pub fit : AllFit payloads

-- a whole frame of a base follows these payloads, and no base follows it
pub record BaseFollows (file : List ℕ) (mark : ℕ) (payloads : List (List ℕ)) : Type 0 where
  pub payload : List ℕ
  pub gate : ℕ
  pub rest : List ℕ
  pub split : file ≡ front mark (payloads ++ payload ∷ []) ++ gate ∷ rest
  pub fits : Fits payload
  pub base : is_base (version_of mark) payload ≡ true
  pub last : NoBaseBehind file mark (payloads ++ payload ∷ [])

-- ---- a reader

-- its disk, how its file begins, and the version and length of the file; the place of the next commit byte, the
-- payload that was read last, and whether the end was found
pub record Progress (D : Type 0) : Type 0 where
  pub disk : D
  pub standing : JournalState
  pub version : Version
  pub size : ℕ
  pub at : ℕ
  pub payload : List ℕ
  pub is_done : Bool

-- a reader that has read no payload, at this commit byte
abbrev pub at_gate : {D : Type 0} → D → JournalState → Version → ℕ → ℕ → Progress D
at_gate disk standing version size at =
    record {
      disk = disk;
      standing = standing;
      version = version;
      size = size;
      at = at;
      payload = [];
      is_done = false;
    }

-- the content so far: that of the payloads before the place, if no base follows; nothing yet, if the last base
-- follows
abbrev pub Counts : List ℕ → ℕ → List (List ℕ) → Content → Type 0
Counts file mark payloads content =
    ((content ≡ content_from (version_of mark) payloads) × NoBaseBehind file mark payloads)
    ⊎ ((content ≡ nothing) × BaseFollows file mark payloads)

-- a journal of this version was read up to the commit byte at this place
pub record ReadsTo (file : List ℕ) (version : Version) (at : ℕ) (content : Content) : Type 0 where
  pub mark : ℕ
  pub before : List (List ℕ)
  pub frames : HasFrames file mark at before
  pub of_version : version_of mark ≡ version
  pub counts : Counts file mark before content

-- the part of a file that was read, and the content so far
abbrev pub IsReadTo : JournalState → Version → List ℕ → ℕ → Content → Type 0
IsReadTo Bare version file at content = LiesAs Bare version file at content
IsReadTo Ready version file at content = ReadsTo file version at content
IsReadTo Still version file at content = ⊥

-- the reader has read this much of this file; if it found the end, there is no more
pub record HasRead {D : Type 0} (bytes : D → Option (List ℕ)) (reader : Progress D) (file : List ℕ)
    (content : Content) : Type 0 where
  pub told : bytes reader.disk ≡ Some file
  pub size : reader.size ≡ length file
  pub read : IsReadTo reader.standing reader.version file reader.at content
  pub done : reader.is_done ≡ true → LiesAs reader.standing reader.version file reader.at content

-- the content, and one more payload
abbrev pub with_next : Content → List ℕ → Content
with_next content payload = record { base = content.base; payloads = content.payloads ++ payload ∷ [] }

-- only a base
abbrev pub based_on : List ℕ → Content
based_on payload = record { base = Some payload; payloads = [] }

-- the result of one step of reading, given the content so far
abbrev pub Steps : {D : Type 0} → (D → Option (List ℕ)) → Next → List ℕ → Content → Progress D → Progress D → Type 0
Steps bytes (Base at) file content old new =
    Follows file new.version content new.payload at × HasRead bytes new file (based_on new.payload)
Steps bytes (Payload at) file content old new =
    Follows file new.version content new.payload at × HasRead bytes new file (with_next content new.payload)
Steps bytes End file content old new = StandsFor file content × HasRead bytes new file content
Steps bytes (Damaged at) file content old new = IsDamaged file content at × HasRead bytes new file content
Steps bytes DiskFault file content old new = HasRead bytes new file content
Steps bytes NoMemory file content old new = HasRead bytes new file content

-- the place moves past a payload, and stays before the end of the file, which may have grown
pub record GoesBehind {D : Type 0} (at : ℕ) (old new : Progress D) : Type 0 where
  pub from : at ≡ old.at
  pub to : new.at ≡ old.at + 5 + length new.payload
  pub within : new.at < new.size
  pub most : new.size ≤ MOST_BYTES

abbrev pub Moves : {D : Type 0} → Next → Progress D → Progress D → Type 0
Moves (Base at) old new = GoesBehind at old new × (is_base new.version new.payload ≡ true)
Moves (Payload at) old new = GoesBehind at old new × (is_base new.version new.payload ≡ false)
Moves End old new = new.at ≡ old.at
Moves (Damaged at) old new = (at ≡ old.at) × (new.at ≡ old.at)
Moves DiskFault old new = new.at ≡ old.at
Moves NoMemory old new = new.at ≡ old.at

-- the end was found
abbrev pub is_end : Next → Bool
is_end (Base at) = false
is_end (Payload at) = false
is_end End = true
is_end (Damaged at) = false
is_end DiskFault = false
is_end NoMemory = false

-- the count of faults rises with a fault, and stays otherwise
abbrev pub CountsNext : Next → ℕ → ℕ → Type 0
CountsNext (Base at) before now = now ≡ before
CountsNext (Payload at) before now = now ≡ before
CountsNext End before now = now ≡ before
CountsNext (Damaged at) before now = now ≡ before
CountsNext DiskFault before now = Rose before now
CountsNext NoMemory before now = now ≡ before

-- ---- parts of it

-- the beginning of a file of this many bytes, by its first nine
abbrev pub IsStart : Start → List ℕ → ℕ → Type 0
IsStart StartsBare head size = (size ≤ 9) × (head ≢ header)
IsStart (StartsJournal version) head size =
    (take 7 head ≡ magic) × (version ≡ version_of (slice_index head 7)) × ((9 < size) ⊎ (head ≡ header))
IsStart StartsForeign head size = (9 < size) × (take 7 head ≢ magic)

-- a journal has a commit byte
abbrev pub IsSized : Start → ℕ → Type 0
IsSized StartsBare size = ⊤
IsSized (StartsJournal version) size = 9 ≤ size
IsSized StartsForeign size = ⊤

-- the meaning of a commit byte and the five bytes after it, if the file has this many bytes from it on
abbrev pub JudgesHead : Head → List ℕ → ℕ → Type 0
JudgesHead Closed head left = slice_index head 0 ≢ 1
JudgesHead (Frame n first) head left =
    (slice_index head 0 ≡ 1) × (5 + n < left) × (n < 2 ^ 32) × (to_le_bytes w32 n ≡ take 4 (drop 1 head))
    × (first ≡ slice_index head 5)
JudgesHead Short head left =
    (slice_index head 0 ≡ 1) × ((left < 5) ⊎ (left ≤ 5 + from_le_bytes w32 (take 4 (drop 1 head))))

-- a commit byte follows a frame
abbrev pub EndsWithin : Head → ℕ → ℕ → Type 0
EndsWithin Closed at size = ⊤
EndsWithin (Frame n first) at size = at + 5 + n < size
EndsWithin Short at size = ⊤

-- reading begins at this commit byte in a file with this beginning
abbrev pub BeginsAt : Start → List ℕ → ℕ → Type 0
BeginsAt StartsBare file at = IsReadTo Bare One file at nothing
BeginsAt (StartsJournal version) file at = IsReadTo Ready version file at nothing
BeginsAt StartsForeign file at = ⊤

-- and it may begin there
abbrev pub MayBeginAt : Option (List ℕ) → Start → ReadStart → Type 0
MayBeginAt told StartsBare begin = IsReading told Bare begin.size begin.at
MayBeginAt told (StartsJournal version) begin = IsReading told Ready begin.size begin.at
MayBeginAt told StartsForeign begin = ⊤

-- the beginning of a file, and the place at which reading begins in it
abbrev pub IsFound : FileStart → List ℕ → Type 0
IsFound found file = StartsAs found.start file × BeginsAt found.start file found.beginning.at

abbrev pub MayBegin : Option (List ℕ) → FileStart → Type 0
MayBegin told found = MayBeginAt told found.start found.beginning

-- the bytes of a payload were read, or not
abbrev pub Takes : PayloadRead → Option (List ℕ) → ℕ → List ℕ → Type 0
Takes Taking told at payload = IsRange told at payload
Takes TakeFault told at payload = ⊤
Takes TakeNothing told at payload = ⊤

abbrev pub IfTaken : PayloadRead → Type 0 → Type 0
IfTaken Taking P = P
IfTaken TakeFault P = ⊤
IfTaken TakeNothing P = ⊤

abbrev pub CountsTaken : PayloadRead → ℕ → ℕ → Type 0
CountsTaken Taking before now = now ≡ before
CountsTaken TakeFault before now = Rose before now
CountsTaken TakeNothing before now = now ≡ before
