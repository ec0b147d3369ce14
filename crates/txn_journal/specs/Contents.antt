-- The payloads of a journal that count.
use Rattle.std.specs.Prelude.{◌≡◌, ℕ, Bool, false, cond, nat_eq, List, [], ◌∷◌, ◌++◌, length, take, slice_index, Option, Some, None}
use Rattle.std.specs.List.{list_any}
use Rattle.txn_journal.specs.declared.versions.Version.{Version}
use Rattle.txn_journal.specs.declared.versions.Version.TheVariants.{One, Two}

-- the content: the base, if there is one, and the payloads after it
pub record Content : Type 0 where
  pub base : Option (List ℕ)
  pub payloads : List (List ℕ)

-- the content of no payloads
abbrev pub nothing : Content
nothing = record { base = None; payloads = [] }

-- a journal's version by its byte: `2` is version 2, and every other byte is version 1
abbrev pub version_of : ℕ → Version
version_of mark = cond (nat_eq mark 50) Two One

abbrev pub number_of : Version → ℕ
number_of One = 1
number_of Two = 2

-- in version 2 a payload that begins with the byte 8 is a base
abbrev pub is_base : Version → List ℕ → Bool
is_base One payload = false
is_base Two payload = nat_eq (slice_index payload 0) 8

-- one of these payloads is a base
abbrev pub has_base : Version → List (List ℕ) → Bool
has_base version payloads = list_any (is_base version) payloads

-- the content with one more payload: if that is a base, nothing before it counts
abbrev pub with_payload : Version → Content → List ℕ → Content
with_payload version content payload =
    cond (is_base version payload) (record { base = Some payload; payloads = [] })
    (record { base = content.base; payloads = content.payloads ++ payload ∷ [] })

-- the content with these payloads added
abbrev pub with_payloads : Version → Content → List (List ℕ) → Content
with_payloads version content [] = content
with_payloads version content (payload ∷ payloads) =
    with_payloads version (with_payload version content payload) payloads

-- the content of these payloads: the last base and those after it, or all of them if there is no base
abbrev pub content_from : Version → List (List ℕ) → Content
content_from version payloads = with_payloads version nothing payloads

-- the content once the journal is of version 2
abbrev pub content_of_version_2 : Content → Content
content_of_version_2 content = with_payloads Two (record { base = content.base; payloads = [] }) content.payloads

-- only a base, or nothing
abbrev pub base_alone : Option (List ℕ) → List (List ℕ)
base_alone None = []
base_alone (Some payload) = payload ∷ []

-- the content, as one list in order
abbrev pub payload_list : Content → List (List ℕ)
payload_list content = base_alone content.base ++ content.payloads

-- one content begins another: they have the same base, and the payloads of the first are the first ones of the
-- other
pub record IsFront (front whole : Content) : Type 0 where
  pub base : whole.base ≡ front.base
  pub payloads : take (length front.payloads) whole.payloads ≡ front.payloads
