-- What is true of all results of a rule: of its value, and of the number of bytes of its tokens.
use Rattle.std.proofs.Common.{◌≡◌, ℕ, ◌+◌, ◌<◌, ◌≤◌, Bool, true, List, [], ◌∷◌, ◌++◌, length, Option, Some, sym, ap, subst, ◌∙◌, arith, inl, inr}
use Rattle.std.specs.Prelude.{sum_by, ◌⊎◌}
use Rattle.std.specs.List.{AllByRecursion}
use Rattle.std.proofs.lemmas.List.Sums.{sum_by-cons}
use Rattle.std.proofs.lemmas.Slice.Eq.{bytes_eq-Decides}
use Rattle.stmt_tokens.specs.Tokens.{Token, word, number, quoted, mark}
use Rattle.stmt_tokens.specs.Scan.{Seen, seen_token}
use Rattle.stmt_tokens.specs.Words.{keyword_text, is_keyword, is_spelled, is_mark, word_of, quoted_of}
use Rattle.stmt_reader.specs.Grammar as rule
use Rattle.stmt_reader.specs.Grammar.{Rule, means, sequence, either, many, list_rule, one, token_rule}
use Rattle.stmt_tokens.specs.declared.keywords.Keyword.{Keyword}
use Rattle.stmt_tokens.specs.declared.tokens.Mark.{Mark}

-- the least number of bytes of a token
abbrev pub token_size : Token → ℕ
token_size (word w) = length w
token_size (number z) = 1
token_size (quoted w) = 2 + length w
token_size (mark m) = 1

abbrev pub weight : List Token → ℕ
weight [] = 0
weight (t ∷ ts) = token_size t + weight ts

weight-append : (us vs : List Token) → weight (us ++ vs) ≡ weight us + weight vs
weight-append [] vs = omega arith
weight-append (t ∷ us) vs = omega (arith, weight-append us vs)

-- all results of a rule have a property of the value and of the bytes of its tokens
pub record Yields {A : Type 0} (L : Rule A) (P : A → ℕ → Type 0) : Type 0 where
  pub holds : (ts : List Token) (a : A) → L ts a → P a (weight ts)

-- ---- rules combined

pub yields_means : {A : Type 0} (a : A) (P : A → ℕ → Type 0) → P a 0 → Yields (means a) P
unfolding means
yields_means {A} a P h = record {
  holds = λ ts b l.
      subst (λ (us : List Token). P b (weight us)) (sym l.0) (subst (λ (x : A). P x 0) l.1 h);
}

pub yields_then : {A B : Type 0} {L : Rule A} {M : A → Rule B} {P : A → ℕ → Type 0} {Q : B → ℕ → Type 0} → Yields L P → ((a : A) (n : ℕ) → P a n → Yields (M a) (λ b m. Q b (n + m))) → Yields (sequence L M) Q
unfolding sequence
yields_then {L = L} {M = M} {P = P} {Q = Q} f g = record {
  holds = λ ts b (us, vs, a, e, l, m).
      subst (λ (n : ℕ). Q b n) (sym (ap weight e ∙ weight-append us vs)) ((g a (weight us) (f.holds us a l)).holds vs b m);
}

yields_one_of : {A : Type 0} {L M : Rule A} {P : A → ℕ → Type 0} → Yields L P → Yields M P → (ts : List Token) (a : A) → L ts a ⊎ M ts a → P a (weight ts)
yields_one_of f g ts a (inl l) = f.holds ts a l
yields_one_of f g ts a (inr m) = g.holds ts a m

pub yields_either : {A : Type 0} {L M : Rule A} {P : A → ℕ → Type 0} → Yields L P → Yields M P → Yields (either L M) P
unfolding either
yields_either f g = record { holds = λ ts a l. yields_one_of f g ts a l }

-- ---- lists

-- an item with this property, which takes at least this many bytes
pub record Item {A : Type 0} (R : A → Type 0) (f : A → ℕ) (a : A) (n : ℕ) : Type 0 where
  pub is : R a
  pub size : f a ≤ n

pub record Items {A : Type 0} (R : A → Type 0) (f : A → ℕ) (items : List A) (n : ℕ) : Type 0 where
  pub each : AllByRecursion R items
  pub size : sum_by f items ≤ n

many_holds : {A : Type 0} {L : Rule A} {R : A → Type 0} {f : A → ℕ} → Yields L (Item R f) → (ts : List Token) (items : List A) → many L ts items → Items R f items (weight ts)
unfolding many
many_holds y ts [] e = record { each = tt; size = omega arith }
many_holds {f = f} y ts (a ∷ items) (us, vs, e, l, m) =
    let first = y.holds us a l in
    let others = many_holds y vs items m in
    let both : weight ts ≡ weight us + weight vs = ap weight e ∙ weight-append us vs in
    let total : sum_by f (a ∷ items) ≡ f a + sum_by f items = sum_by-cons f a items in
    record { each = (first.is, others.each); size = omega (arith, first.size, others.size) }

pub yields_many : {A : Type 0} {L : Rule A} {R : A → Type 0} {f : A → ℕ} → Yields L (Item R f) → Yields (many L) (Items R f)
yields_many y = record { holds = λ ts items l. many_holds y ts items l }

-- one item or more
pub record Listed {A : Type 0} (c : ℕ) (R : A → Type 0) (f : A → ℕ) (items : List A) (n : ℕ) : Type 0 where
  pub some : 0 < length items
  pub each : AllByRecursion R items
  pub size : sum_by f items ≤ c + n

-- a list of items; f adds the c bytes of its separator to each
pub yields_listed : {A B : Type 0} {S : Rule B} {L : Rule A} {R : A → Type 0} (c : ℕ) (f : A → ℕ) → Yields S (λ _ n. c ≤ n) → Yields L (λ a n. Item R f a (c + n)) → Yields (list_rule S L) (Listed c R f)
yields_listed {A} {R = R} c f s y =
    yields_then y (λ first n h.
    yields_then (yields_many (behind c s y)) (λ others m k.
    yields_means (first ∷ others) _
    (let total : sum_by f (first ∷ others) ≡ f first + sum_by f others = sum_by-cons f first others in
    record { some = omega arith; each = (h.is, k.each); size = omega (arith, h.size, k.size) })))
  where
    behind : {B : Type 0} {S : Rule B} {L : Rule _} (c : ℕ) → Yields S (λ _ n. c ≤ n) → Yields L (λ a n. Item R f a (c + n)) → Yields (sequence S (λ _. L)) (Item R f)
    behind c s y = yields_then s (λ _ n h. record { holds = λ ts a l. let k = y.holds ts a l in record { is = k.is; size = omega (arith, k.size) } })

-- ---- one token

-- a token with this property
one_token : (P : ℕ → Type 0) (ts : List Token) (t : Token) → ts ≡ t ∷ [] → P (token_size t + 0) → P (weight ts)
one_token P ts t e h = subst (λ (us : List Token). P (weight us)) (sym e) h

pub yields_one : {A : Type 0} (f : Seen → Option A) (P : A → ℕ → Type 0) → ((t : Token) (a : A) → f (seen_token t) ≡ Some a → P a (token_size t + 0)) → Yields (one f) P
unfolding one
yields_one f P h = record { holds = λ ts a (t, e, k). one_token (P a) ts t e (h t a k) }

pub yields_wanted : (test : Seen → Bool) (P : ℕ → Type 0) → ((t : Token) → test (seen_token t) ≡ true → P (token_size t + 0)) → Yields (token_rule test) (λ _ n. P n)
unfolding token_rule
yields_wanted test P h = record { holds = λ ts u (t, e, k). one_token P ts t e (h t k) }

-- for any value
pub yields_any : (test : Seen → Bool) → Yields (token_rule test) (λ _ n. 0 ≤ n)
yields_any test = yields_wanted test (λ n. 0 ≤ n) (λ t k. omega arith)

keyword_size : (k : Keyword) (t : Token) → is_keyword k (seen_token t) ≡ true → length (keyword_text k) ≤ token_size t + 0
keyword_size k (word w) e = omega (arith, ap length ((bytes_eq-Decides w (keyword_text k)).0 e))
keyword_size k (number z) e = absurd cc
keyword_size k (quoted w) e = absurd cc
keyword_size k (mark m) e = absurd cc

pub yields_keyword : (k : Keyword) → Yields (rule.keyword k) (λ _ n. length (keyword_text k) ≤ n)
yields_keyword k = yields_wanted (is_keyword k) (λ n. length (keyword_text k) ≤ n) (keyword_size k)

spelled_size : (text : List ℕ) (t : Token) → is_spelled text (seen_token t) ≡ true → length text ≤ token_size t + 0
spelled_size text (word w) e = omega (arith, ap length ((bytes_eq-Decides w text).0 e))
spelled_size text (number z) e = absurd cc
spelled_size text (quoted w) e = absurd cc
spelled_size text (mark m) e = absurd cc

pub yields_spelled : (text : List ℕ) → Yields (token_rule (is_spelled text)) (λ _ n. length text ≤ n)
yields_spelled text = yields_wanted (is_spelled text) (λ n. length text ≤ n) (spelled_size text)

mark_size : (m : Mark) (t : Token) → is_mark m (seen_token t) ≡ true → 1 ≤ token_size t + 0
mark_size m (word w) e = absurd cc
mark_size m (number z) e = absurd cc
mark_size m (quoted w) e = absurd cc
mark_size m (mark o) e = omega arith

pub yields_mark : (m : Mark) → Yields (rule.mark m) (λ _ n. 1 ≤ n)
yields_mark m = yields_wanted (is_mark m) (λ n. 1 ≤ n) (mark_size m)

word_size : (t : Token) (w : List ℕ) → word_of (seen_token t) ≡ Some w → length w ≤ token_size t + 0
word_size (word v) w e = let k : v ≡ w = cc in omega (arith, ap length k)
word_size (number z) w e = absurd cc
word_size (quoted v) w e = absurd cc
word_size (mark m) w e = absurd cc

pub yields_name : Yields rule.name (λ w n. length w ≤ n)
yields_name = yields_one word_of (λ w n. length w ≤ n) word_size

quoted_size : (t : Token) (w : List ℕ) → quoted_of (seen_token t) ≡ Some w → 2 + length w ≤ token_size t + 0
quoted_size (word v) w e = absurd cc
quoted_size (number z) w e = absurd cc
quoted_size (quoted v) w e = let k : v ≡ w = cc in omega (arith, ap length k)
quoted_size (mark m) w e = absurd cc

pub yields_quoted : Yields rule.quoted_name (λ w n. 2 + length w ≤ n)
yields_quoted = yields_one quoted_of (λ w n. 2 + length w ≤ n) quoted_size

pub yields_number : Yields rule.number (λ _ n. 1 ≤ n)
unfolding rule.number
yields_number = record { holds = λ ts z e. one_token (λ n. 1 ≤ n) ts (number z) e (omega arith) }
