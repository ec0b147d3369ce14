-- The content of the bytes of a journal.
use Rattle.std.specs.Prelude.{◌≡◌, ◌≢◌, ◌⊎◌, ℕ, false, cond, ◌+◌, ◌^◌, ◌<◌, ◌≤◌, List, [], ◌∷◌, ◌++◌, length, take, drop, map, ◌-◌, ⊤}
use Rattle.std.specs.Int.{w32, to_le_bytes, from_le_bytes}
use Rattle.txn_journal.specs.Contents.{Content, IsFront, content_from, has_base, is_base, nothing, version_of, with_payload}
use Rattle.txn_journal.specs.declared.payloads.Payload.{Payload}
use Rattle.txn_journal.specs.declared.versions.Version.{Version}

-- the seven bytes that a journal begins with: TSCTLJ0
abbrev pub magic : List ℕ
magic = 84 ∷ 83 ∷ 67 ∷ 84 ∷ 76 ∷ 74 ∷ 48 ∷ []

-- the magic bytes, the byte of version 1, which is `1`, and a commit byte of 0
abbrev pub header : List ℕ
header = 84 ∷ 83 ∷ 67 ∷ 84 ∷ 76 ∷ 74 ∷ 48 ∷ 49 ∷ 0 ∷ []

-- a payload's length, in four bytes with the lowest first, and the payload
abbrev pub body : List ℕ → List ℕ
body payload = to_le_bytes w32 (length payload) ++ payload

-- each payload after a commit byte of 1
abbrev pub frames : List (List ℕ) → List ℕ
frames [] = []
frames (payload ∷ payloads) = 1 ∷ body payload ++ frames payloads

-- a journal with this version byte, up to the commit byte after these payloads
abbrev pub front : ℕ → List (List ℕ) → List ℕ
front mark payloads = magic ++ mark ∷ frames payloads

-- a payload's length fits its four bytes
abbrev pub Fits : List ℕ → Type 0
Fits payload = length payload < 2 ^ 32

abbrev pub AllFit : List (List ℕ) → Type 0
AllFit [] = ⊤
AllFit (payload ∷ payloads) = Fits payload × AllFit payloads

-- a file holds payloads with this content, and the commit byte after them isn't 1; what follows it is ignored
pub record Holds (file : List ℕ) (content : Content) : Type 0 where
  pub mark : ℕ
  pub all : List (List ℕ)
  pub gate : ℕ
  pub ignored : List ℕ
  pub split : file ≡ front mark all ++ gate ∷ ignored
  pub closed : gate ≢ 1
  pub fit : AllFit all
  pub counts : content ≡ content_from (version_of mark) all

-- a file has this content: nothing, if it has at most nine bytes, or the content of the payloads that it holds
abbrev pub StandsFor : List ℕ → Content → Type 0
StandsFor file content = ((length file ≤ 9) × (content ≡ nothing)) ⊎ Holds file content

-- a file of this version holds payloads with this content, up to the commit byte at this place, which isn't 1
pub record HoldsTo (file : List ℕ) (version : Version) (end : ℕ) (content : Content) : Type 0 where
  pub holds : Holds file content
  pub of_version : version_of holds.mark ≡ version
  pub place : end ≡ length (front holds.mark holds.all)

-- the bytes after a commit byte of 1 are too few for a length, for that many bytes, and for the next commit
-- byte
abbrev pub IsShort : List ℕ → Type 0
IsShort rest = (length rest < 4) ⊎ (length rest < 5 + from_le_bytes w32 (take 4 rest))

-- a file holds payloads with this content, and after the commit byte of 1 at this place it is too short
pub record BreaksOff (file : List ℕ) (content : Content) (at : ℕ) : Type 0 where
  pub mark : ℕ
  pub all : List (List ℕ)
  pub rest : List ℕ
  pub split : file ≡ front mark all ++ 1 ∷ rest
  pub short : IsShort rest
  pub place : at ≡ length (front mark all)
  pub fit : AllFit all
  pub counts : content ≡ content_from (version_of mark) all

-- a file of more than nine bytes doesn't begin like a journal
pub record IsForeign (file : List ℕ) (content : Content) (at : ℕ) : Type 0 where
  pub begins : take 7 file ≢ magic
  pub none : content ≡ nothing
  pub place : at ≡ 0

-- a file is damaged at this place, and has this content before it
pub record IsDamaged (file : List ℕ) (content : Content) (at : ℕ) : Type 0 where
  pub long : 9 < length file
  pub broken : IsForeign file content at ⊎ BreaksOff file content at

-- no whole frame after these payloads is one of a base
abbrev pub NoBaseBehind : List ℕ → ℕ → List (List ℕ) → Type 0
NoBaseBehind file mark payloads =
    (more : List (List ℕ)) (gate : ℕ) (rest : List ℕ) → AllFit (payloads ++ more)
    → file ≡ front mark (payloads ++ more) ++ gate ∷ rest → has_base (version_of mark) more ≡ false

-- the content before a payload: nothing, if it is a base
abbrev pub counted_before : Version → List (List ℕ) → List ℕ → Content
counted_before version payloads payload = cond (is_base version payload) nothing (content_from version payloads)

-- a whole frame of this payload follows the commit byte of 1 at this place. The payload counts, and this is the
-- content before it
pub record Follows (file : List ℕ) (version : Version) (content : Content) (payload : List ℕ) (at : ℕ) : Type 0 where
  pub mark : ℕ
  pub before : List (List ℕ)
  pub gate : ℕ
  pub rest : List ℕ
  pub split : file ≡ front mark (before ++ payload ∷ []) ++ gate ∷ rest
  pub fit : AllFit (before ++ payload ∷ [])
  pub place : at ≡ length (front mark before)
  pub of_version : version_of mark ≡ version
  pub counts : content ≡ counted_before version before payload
  pub last : NoBaseBehind file mark (before ++ payload ∷ [])

-- a file has content that begins with this
pub record StandsForMore (content : Content) (file : List ℕ) : Type 0 where
  pub all : Content
  pub stands : StandsFor file all
  pub begins : IsFront content all

-- a file has one content or the other
abbrev pub StandsForEither : Content → Content → List ℕ → Type 0
StandsForEither one other file = StandsFor file one ⊎ StandsFor file other

-- a file has this content, with one more payload or without it
abbrev pub WithOrWithout : Version → Content → List ℕ → List ℕ → Type 0
WithOrWithout version content payload file = StandsForEither content (with_payload version content payload) file

-- payloads with the places of their commit bytes; the first is at this place
abbrev pub payloads_at : ℕ → List (List ℕ) → List Payload
payloads_at at [] = []
payloads_at at (payload ∷ payloads) = record { bytes = payload; at = at } ∷ payloads_at (at + 5 + length payload) payloads

abbrev pub payloads_of : List Payload → List (List ℕ)
payloads_of payloads = map (λ p. p.bytes) payloads

-- the payload in its frame: after four bytes and before the last
abbrev pub payload_of : List ℕ → List ℕ
payload_of bytes = take (length bytes - 5) (drop 4 bytes)
