-- What is true of all results of a rule, for tokens whose names are names and whose numbers fit 64 bits.
use Rattle.std.proofs.Common.{◌≡◌, ℕ, List, [], ◌∷◌, ◌++◌, Option, Some, subst, inl, inr}
use Rattle.std.specs.Prelude.{◌⊎◌}
use Rattle.std.specs.List.{AllByRecursion}
use Rattle.stmt_tokens.specs.Tokens.{Token, word, number, quoted, mark}
use Rattle.stmt_tokens.specs.Scan.{Seen, seen_token}
use Rattle.stmt_tokens.specs.Words.{word_of, quoted_of}
use Rattle.stmt_syntax.specs.Proper.{IsName, IsWord}
use Rattle.stmt_reader.specs.Grammar as rule
use Rattle.stmt_reader.specs.Grammar.{Rule, means, sequence, either, many, list_rule, one, token_rule}

-- a token's name is a name, and its number fits 64 bits
abbrev pub IsProperToken : Token → Type 0
IsProperToken (word w) = IsName w
IsProperToken (number z) = IsWord z
IsProperToken (quoted w) = IsName w
IsProperToken (mark m) = Unit {0}

abbrev pub AreProper : List Token → Type 0
AreProper ts = AllByRecursion IsProperToken ts

proper_split : (us vs : List Token) → AreProper (us ++ vs) → AreProper us × AreProper vs
proper_split [] vs h = (tt, h)
proper_split (t ∷ us) vs h = let k = proper_split us vs h.1 in ((h.0, k.0), k.1)

pub record Holds {A : Type 0} (L : Rule A) (P : A → Type 0) : Type 0 where
  pub holds : (ts : List Token) (a : A) → AreProper ts → L ts a → P a

-- ---- rules combined

pub holds_any : {A : Type 0} (L : Rule A) → Holds L (λ _. Unit {0})
holds_any L = record { holds = λ ts a h l. tt }

pub holds_means : {A : Type 0} (a : A) (P : A → Type 0) → P a → Holds (means a) P
unfolding means
holds_means a P h = record { holds = λ ts b p l. subst P l.1 h }

pub holds_then : {A B : Type 0} {L : Rule A} {M : A → Rule B} {P : A → Type 0} {Q : B → Type 0} → Holds L P → ((a : A) → P a → Holds (M a) Q) → Holds (sequence L M) Q
unfolding sequence
holds_then f g = record {
  holds = λ ts b h (us, vs, a, e, l, m).
      let parts = proper_split us vs (subst AreProper e h) in
      (g a (f.holds us a parts.0 l)).holds vs b parts.1 m;
}

-- after tokens without a value
pub past : {A B : Type 0} (L : Rule A) {M : Rule B} {Q : B → Type 0} → Holds M Q → Holds (sequence L (λ _. M)) Q
past L g = holds_then (holds_any L) (λ _ _. g)

holds_one_of : {A : Type 0} {L M : Rule A} {P : A → Type 0} → Holds L P → Holds M P → (ts : List Token) (a : A) → AreProper ts → L ts a ⊎ M ts a → P a
holds_one_of f g ts a h (inl l) = f.holds ts a h l
holds_one_of f g ts a h (inr m) = g.holds ts a h m

pub holds_either : {A : Type 0} {L M : Rule A} {P : A → Type 0} → Holds L P → Holds M P → Holds (either L M) P
unfolding either
holds_either f g = record { holds = λ ts a h l. holds_one_of f g ts a h l }

many_hold : {A : Type 0} {L : Rule A} {P : A → Type 0} → Holds L P → (ts : List Token) (items : List A) → AreProper ts → many L ts items → AllByRecursion P items
unfolding many
many_hold y ts [] h e = tt
many_hold y ts (a ∷ items) h (us, vs, e, l, m) =
    let parts = proper_split us vs (subst AreProper e h) in
    (y.holds us a parts.0 l, many_hold y vs items parts.1 m)

pub holds_many : {A : Type 0} {L : Rule A} {P : A → Type 0} → Holds L P → Holds (many L) (AllByRecursion P)
holds_many y = record { holds = λ ts items h l. many_hold y ts items h l }

pub holds_listed : {A B : Type 0} (S : Rule B) {L : Rule A} {P : A → Type 0} → Holds L P → Holds (list_rule S L) (AllByRecursion P)
holds_listed S y = holds_then y (λ first h. holds_then (holds_many (past S y)) (λ others k. holds_means (first ∷ others) _ (h, k)))

-- ---- one token

proper_one : (P : Token → Type 0) (ts : List Token) (t : Token) → ts ≡ t ∷ [] → AllByRecursion P ts → P t
proper_one P ts t e h = (subst (λ us. AllByRecursion P us) e h).0

pub holds_one : {A : Type 0} (f : Seen → Option A) (P : A → Type 0) → ((t : Token) (a : A) → IsProperToken t → f (seen_token t) ≡ Some a → P a) → Holds (one f) P
unfolding one
holds_one f P h = record { holds = λ ts a p (t, e, k). h t a (proper_one IsProperToken ts t e p) k }

named_word : (t : Token) (w : List ℕ) → IsProperToken t → word_of (seen_token t) ≡ Some w → IsName w
named_word (word v) w p e = let k : v ≡ w = cc in subst IsName k p
named_word (number z) w p e = absurd cc
named_word (quoted v) w p e = absurd cc
named_word (mark m) w p e = absurd cc

pub holds_name : Holds rule.name IsName
holds_name = holds_one word_of IsName named_word

named_quoted : (t : Token) (w : List ℕ) → IsProperToken t → quoted_of (seen_token t) ≡ Some w → IsName w
named_quoted (word v) w p e = absurd cc
named_quoted (number z) w p e = absurd cc
named_quoted (quoted v) w p e = let k : v ≡ w = cc in subst IsName k p
named_quoted (mark m) w p e = absurd cc

pub holds_quoted : Holds rule.quoted_name IsName
holds_quoted = holds_one quoted_of IsName named_quoted

pub holds_number : Holds rule.number IsWord
unfolding rule.number
holds_number = record { holds = λ ts z p e. proper_one IsProperToken ts (number z) e p }
