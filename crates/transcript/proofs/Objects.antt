-- The members of an object, in order.
use Rattle.std.proofs.Common.{◌≡◌, ◌≢◌, ℕ, List, [], ◌∷◌, true, cond, ◌&&◌, Some, None, BTreeMap, String, Global, bytes_eq, string_bytes, length, refl, sym, ap, ◌∙◌}
use Rattle.serde_json.specs.View.{view, members_view}
use Rattle.serde_json.specs.declared.value.Value.{Value, Object}
use Rattle.serde_json.proofs.Views.{Entry, view-Object}
use Rattle.transcript.specs.Members.{two_of, two_members}

module _ (first second : List ℕ) where
  seen : (value : Value) (m : BTreeMap (String Global) Value) (a b : Entry) (rest more : List Entry) → value ≡ Object m → m.entries ≡ a ∷ rest → rest ≡ b ∷ more
      → two_members first second (view value) ≡ two_of first second (members_view (a ∷ b ∷ more))
  seen value m a b rest more is one two = rw (is, view-Object m, one, two) refl

  too_many : (a b : Entry) (more : List Entry) → length more ≢ 0 → None ≡ two_of first second (members_view (a ∷ b ∷ more))
  too_many a b [] some = absurd (some refl)
  too_many a b (c ∷ more) some = refl

  pub more_than_two : (value : Value) (m : BTreeMap (String Global) Value) (a b : Entry) (rest more : List Entry) → value ≡ Object m → m.entries ≡ a ∷ rest → rest ≡ b ∷ more → length more ≢ 0
      → None ≡ two_members first second (view value)
  more_than_two value m a b rest more is one two some = too_many a b more some ∙ sym (seen value m a b rest more is one two)

  both : (a b : Entry) (more : List Entry) → length more ≡ 0 → (bytes_eq (string_bytes a.0) first && bytes_eq (string_bytes b.0) second) ≡ true
      → Some (view a.1, view b.1) ≡ two_of first second (members_view (a ∷ b ∷ more))
  both a b [] none named = sym (ap (λ t. cond t (Some (view a.1, view b.1)) None) named)
  both a b (c ∷ more) none named = absurd cc

  pub just_two : (value : Value) (m : BTreeMap (String Global) Value) (a b : Entry) (rest more : List Entry) → value ≡ Object m → m.entries ≡ a ∷ rest → rest ≡ b ∷ more → length more ≡ 0
      → (bytes_eq (string_bytes a.0) first && bytes_eq (string_bytes b.0) second) ≡ true → Some (view a.1, view b.1) ≡ two_members first second (view value)
  just_two value m a b rest more is one two none named = both a b more none named ∙ sym (seen value m a b rest more is one two)
