-- Laws of two maps that are combined edge by edge: below the edges left the values are those of the edges
-- built, and from there on those of the edges left.
use Rattle.std.proofs.Common.{◌≡◌, ℕ, Bool, true, false, not, cond, ◌&&◌, ◌⊎◌, inl, inr, ℤ, ◌≤ℤ◌, ◌<ℤ◌, int_lt, nat_eq, List, [], ◌∷◌, ◌++◌, Option, Some, None, refl, sym, ap, ◌∙◌, subst, arith}
use Rattle.std.specs.Int.{int_min}
use Rattle.std.specs.Option.{option_eq}
use Rattle.std.specs.Ordering.{int_eq}
use Rattle.std.proofs.lemmas.Int.{ints, clamps, by_lt_z}
use Rattle.std.proofs.lemmas.Bool.Decides.{Decides-int_eq}
use Rattle.std.proofs.lemmas.Option.{same_Some}
use Rattle.span_map.specs.declared.edges.Edge.{Edge}
use Rattle.span_map.specs.declared.rules.Rule.{Rule}
use Rattle.span_map.specs.declared.rules.Rule.TheVariants.{Over, Later, Above, NotBelow, Where}
use Rattle.span_map.specs.Combined.{combined_by, earliest, value_from_on, edges_past, with_last}
use Rattle.span_map.specs.Edges.{value_from, last_value, IsBelowFirst, IsRising}
use Rattle.span_map.proofs.EdgeLaws.{AllBelow, all_below-higher, all_below-end, last_value-end, rising-end, value_from-before_end, value_from-above, value_from-end}
use Rattle.span_map.proofs.ChangeLaws.{equal_values}

-- no rule combines two missing values into one
pub combined-none : (rule : Rule) → combined_by rule None None ≡ None
combined-none Over = refl
combined-none Later = refl
combined-none Above = refl
combined-none NotBelow = refl
combined-none Where = refl

-- t is below the first of the edges
abbrev is_before_first : ℤ → List Edge → Bool
is_before_first t [] = true
is_before_first t (e ∷ es) = int_lt t e.from

-- x is at or below the first of the edges
abbrev IsFrom : ℤ → List Edge → Type 0
IsFrom x [] = Unit {0}
IsFrom x (e ∷ es) = x ≤ℤ e.from

-- each of the edges built is below those left
abbrev AreUnder : List Edge → List Edge → Type 0
AreUnder made [] = Unit {0}
AreUnder made (e ∷ es) = AllBelow e.from made

-- the first of the edges is at x
abbrev BeginsAt : ℤ → List Edge → Type 0
BeginsAt x [] = ⊥
BeginsAt x (e ∷ es) = e.from ≡ x

-- ---- one side, past x

before-first : (x t : ℤ) (es : List Edge) → IsFrom x es → t <ℤ x → is_before_first t es ≡ true
before-first x t [] h l = refl
before-first x t (e ∷ es) h l = let le : x ≤ℤ e.from = h in grind (arith, ints)

not_before : (x t : ℤ) (es : List Edge) → BeginsAt x es → x ≤ℤ t → is_before_first t es ≡ false
not_before x t [] h l = absurd h
not_before x t (e ∷ es) h l = let same : e.from ≡ x = h in grind (arith, ints)

values_before : (v : Option ℕ) (t : ℤ) (es : List Edge) → is_before_first t es ≡ true → value_from v es t ≡ v
values_before v t [] h = refl
values_before v t (e ∷ es) h = ap (λ b. cond b v (value_from e.value es t)) h

past_step : (x : ℤ) (e : Edge) (es : List Edge) (v : Option ℕ) (t : ℤ) (here : Bool) → int_eq e.from x ≡ here → x ≤ℤ e.from → x ≤ℤ t → value_from (cond here e.value v) (cond here es (e ∷ es)) t ≡ value_from v (e ∷ es) t
past_step x e es v t true e_is h l =
    let same : e.from ≡ x = (Decides-int_eq e.from x).0 e_is in
    let high : int_lt t e.from ≡ false = grind (arith, ints) in
    sym (ap (λ b. cond b v (value_from e.value es t)) high)
past_step x e es v t false e_is h l = refl

-- from x on the values stay
past_values : (x : ℤ) (v : Option ℕ) (es : List Edge) (t : ℤ) → IsFrom x es → x ≤ℤ t → value_from (value_from_on x v es) (edges_past x es) t ≡ value_from v es t
past_values x v [] t h l = refl
past_values x v (e ∷ es) t h l = past_step x e es v t (int_eq e.from x) refl h l

below_step : (x : ℤ) (e : Edge) (es : List Edge) (here : Bool) → int_eq e.from x ≡ here → x ≤ℤ e.from → IsRising (e ∷ es) → IsBelowFirst x (cond here es (e ∷ es)) × IsRising (cond here es (e ∷ es))
below_step x e es true e_is h r = let same : e.from ≡ x = (Decides-int_eq e.from x).0 e_is in (subst (λ y. IsBelowFirst y es) same r.0, r.1)
below_step x e es false e_is h r = (by_lt_z x e.from (λ less. less) (λ more. absurd (differ (omega (arith, ints)))), r)
  where
    differ : e.from ≡ x → ⊥
    differ same = no_true (sym e_is ∙ (Decides-int_eq e.from x).1 same)
      where
        no_true : false ≡ true → ⊥
        no_true p = grind arith

-- what is left rises above x
past_rising : (x : ℤ) (es : List Edge) → IsFrom x es → IsRising es → IsBelowFirst x (edges_past x es) × IsRising (edges_past x es)
past_rising x [] h r = (tt, tt)
past_rising x (e ∷ es) h r = below_step x e es (int_eq e.from x) refl h r

from_below : (x : ℤ) (es : List Edge) → IsBelowFirst x es → IsFrom x es
from_below x [] h = tt
from_below x (e ∷ es) h = let l : x <ℤ e.from = h in omega (arith, ints)

-- ---- the next number

next_step : (d e : Edge) (x : ℤ) → x ≡ int_min d.from e.from → (x ≤ℤ d.from) × (x ≤ℤ e.from) × ((d.from ≡ x) ⊎ (e.from ≡ x))
next_step d e x h = (omega (arith, ints, clamps), omega (arith, ints, clamps), by_lt_z e.from d.from (λ l. inr (omega (arith, ints, clamps))) (λ g. inl (omega (arith, ints, clamps))))

pub next_is : (ds es : List Edge) (x : ℤ) → earliest ds es ≡ Some x → IsFrom x ds × IsFrom x es × (BeginsAt x ds ⊎ BeginsAt x es)
next_is [] [] x h = absurd (no_some h)
  where
    no_some : None ≡ Some x → ⊥
    no_some p = grind arith
next_is [] (e ∷ es) x h = let same : e.from ≡ x = same_Some e.from x h in (tt, omega (arith, ints), inr same)
next_is (d ∷ ds) [] x h = let same : d.from ≡ x = same_Some d.from x h in (omega (arith, ints), tt, inl same)
next_is (d ∷ ds) (e ∷ es) x h = next_step d e x (sym (same_Some (int_min d.from e.from) x h))

pub none_left : (ds es : List Edge) → earliest ds es ≡ None → (ds ≡ []) × (es ≡ [])
none_left [] [] h = (refl, refl)
none_left [] (e ∷ es) h = absurd (let p : Some e.from ≡ None = h in grind arith)
none_left (d ∷ ds) [] h = absurd (let p : Some d.from ≡ None = h in grind arith)
none_left (d ∷ ds) (e ∷ es) h = absurd (let p : Some (int_min d.from e.from) ≡ None = h in grind arith)

-- ---- the sweep

-- the values of the edges built below those left, and of the edges left from there on
abbrev values_so_far : Rule → List Edge → Option ℕ → List Edge → Option ℕ → List Edge → ℤ → Option ℕ
values_so_far rule made v left w right t = cond (is_before_first t left && is_before_first t right) (value_from None made t) (combined_by rule (value_from v left t) (value_from w right t))

pub record IsCombining (rule : Rule) (first second : List Edge) (made : List Edge) (v : Option ℕ) (left : List Edge) (w : Option ℕ) (right : List Edge) : Type 0 where
  pub rising : IsRising made
  pub rising_left : IsRising left
  pub rising_right : IsRising right
  pub under_left : AreUnder made left
  pub under_right : AreUnder made right
  pub last : last_value None made ≡ combined_by rule v w
  pub values : (t : ℤ) → values_so_far rule made v left w right t ≡ combined_by rule (value_from None first t) (value_from None second t)

none_under : (es : List Edge) → AreUnder [] es
none_under [] = tt
none_under (e ∷ es) = tt

-- at the start
pub combining_start : (rule : Rule) (first second : List Edge) → IsRising first → IsRising second → IsCombining rule first second [] None first None second
combining_start rule first second r q = record {
  rising = tt;
  rising_left = r;
  rising_right = q;
  under_left = none_under first;
  under_right = none_under second;
  last = sym (combined-none rule);
  values = λ t. by t (is_before_first t first) (is_before_first t second) refl refl;
}
  where
    by : (t : ℤ) (a b : Bool) → is_before_first t first ≡ a → is_before_first t second ≡ b → cond (a && b) None (combined_by rule (value_from None first t) (value_from None second t)) ≡ combined_by rule (value_from None first t) (value_from None second t)
    by t true true p q = sym (ap (λ x. combined_by rule x (value_from None second t)) (values_before None t first p) ∙ ap (combined_by rule None) (values_before None t second q) ∙ combined-none rule)
    by t true false p q = refl
    by t false true p q = refl
    by t false false p q = refl

-- at the end
pub combining_end : (rule : Rule) (first second made : List Edge) (v : Option ℕ) (left : List Edge) (w : Option ℕ) (right : List Edge) (t : ℤ) → earliest left right ≡ None → IsCombining rule first second made v left w right → value_from None made t ≡ combined_by rule (value_from None first t) (value_from None second t)
combining_end rule first second made v left w right t none h =
    let empty = none_left left right none in
    sym (ap (λ es. values_so_far rule made v es w right t) empty.0 ∙ ap (λ es. values_so_far rule made v [] w es t) empty.1) ∙ h.values t

all_below_first : (x : ℤ) (made left right : List Edge) → AreUnder made left → AreUnder made right → BeginsAt x left ⊎ BeginsAt x right → AllBelow x made
all_below_first x made [] right p q (inl b) = absurd b
all_below_first x made (e ∷ es) right p q (inl b) = subst (λ y. AllBelow y made) b p
all_below_first x made left [] p q (inr b) = absurd b
all_below_first x made left (e ∷ es) p q (inr b) = subst (λ y. AllBelow y made) b q

-- the edges built, with one more edge at x
record Pushed (x : ℤ) (u : Option ℕ) (made made' : List Edge) : Type 0 where
  rising : IsRising made'
  last : last_value None made' ≡ u
  below : (y : ℤ) → x <ℤ y → AllBelow y made'
  before : (t : ℤ) → t <ℤ x → value_from None made' t ≡ value_from None made t
  after : (t : ℤ) → x ≤ℤ t → value_from None made' t ≡ u

pushed_step : (x : ℤ) (u : Option ℕ) (made : List Edge) (same : Bool) → (same ≡ true → u ≡ last_value None made) → IsRising made → AllBelow x made → Pushed x u made (cond same made (made ++ record { from = x; value = u } ∷ []))
pushed_step x u made true is r b = record {
  rising = r;
  last = sym (is refl);
  below = λ y l. all_below-higher x y made (omega (arith, ints)) b;
  before = λ t l. refl;
  after = λ t l. value_from-above None made x t b l ∙ sym (is refl);
}
pushed_step x u made false is r b = record {
  rising = rising-end made (record { from = x; value = u }) b r;
  last = last_value-end None made (record { from = x; value = u });
  below = λ y l. all_below-end y made (record { from = x; value = u }) l (all_below-higher x y made (omega (arith, ints)) b);
  before = λ t l. value_from-before_end None made (record { from = x; value = u }) t l;
  after = λ t l. value_from-end None made (record { from = x; value = u }) t b l;
}

pushed : (x : ℤ) (u : Option ℕ) (made : List Edge) → IsRising made → AllBelow x made → Pushed x u made (with_last made (record { from = x; value = u }))
pushed x u made r b = pushed_step x u made (option_eq nat_eq u (last_value None made)) (λ e. equal_values u (last_value None made) (not (option_eq nat_eq u (last_value None made))) refl (ap not e)) r b

under_rest : (x : ℤ) (es made : List Edge) → IsBelowFirst x es → ((y : ℤ) → x <ℤ y → AllBelow y made) → AreUnder made es
under_rest x [] made h b = tt
under_rest x (e ∷ es) made h b = b e.from h

-- past the next number
pub combining_step : (rule : Rule) (first second made : List Edge) (v : Option ℕ) (left : List Edge) (w : Option ℕ) (right : List Edge) (x : ℤ) → earliest left right ≡ Some x → IsCombining rule first second made v left w right → IsCombining rule first second (with_last made (record { from = x; value = combined_by rule (value_from_on x v left) (value_from_on x w right) })) (value_from_on x v left) (edges_past x left) (value_from_on x w right) (edges_past x right)
combining_step rule first second made v left w right x next h = record {
  rising = more.rising;
  rising_left = past_left.1;
  rising_right = past_right.1;
  under_left = under_rest x (edges_past x left) made' past_left.0 more.below;
  under_right = under_rest x (edges_past x right) made' past_right.0 more.below;
  last = more.last;
  values = λ t. by_lt_z t x (low t) (high t);
}
  where
    is : IsFrom x left × IsFrom x right × (BeginsAt x left ⊎ BeginsAt x right)
    is = next_is left right x next

    v' : Option ℕ
    v' = value_from_on x v left

    w' : Option ℕ
    w' = value_from_on x w right

    u : Option ℕ
    u = combined_by rule v' w'

    made' : List Edge
    made' = with_last made (record { from = x; value = u })

    more : Pushed x u made made'
    more = pushed x u made h.rising (all_below_first x made left right h.under_left h.under_right is.2)

    past_left : IsBelowFirst x (edges_past x left) × IsRising (edges_past x left)
    past_left = past_rising x left is.0 h.rising_left

    past_right : IsBelowFirst x (edges_past x right) × IsRising (edges_past x right)
    past_right = past_rising x right is.1 h.rising_right

    both : (a b : Bool) (p q : Option ℕ) → a ≡ true → b ≡ true → cond (a && b) p q ≡ p
    both true true p q e f = refl
    both true false p q e f = absurd (let n : false ≡ true = f in grind arith)
    both false b p q e f = absurd (let n : false ≡ true = e in grind arith)

    neither : (a b : Bool) (p q : Option ℕ) → (a ≡ false) ⊎ (b ≡ false) → cond (a && b) p q ≡ q
    neither false b p q e = refl
    neither true false p q e = refl
    neither true true p q (inl e) = absurd (let n : true ≡ false = e in grind arith)
    neither true true p q (inr e) = absurd (let n : true ≡ false = e in grind arith)

    target : ℤ → Option ℕ
    target t = combined_by rule (value_from None first t) (value_from None second t)

    low : (t : ℤ) → t <ℤ x → values_so_far rule made' v' (edges_past x left) w' (edges_past x right) t ≡ target t
    low t l =
        both (is_before_first t (edges_past x left)) (is_before_first t (edges_past x right)) _ _ (before-first x t (edges_past x left) (from_below x _ past_left.0) l) (before-first x t (edges_past x right) (from_below x _ past_right.0) l)
        ∙ more.before t l
        ∙ sym (both (is_before_first t left) (is_before_first t right) _ _ (before-first x t left is.0 l) (before-first x t right is.1 l))
        ∙ h.values t

    at_or_after : (t : ℤ) → x ≤ℤ t → (is_before_first t left ≡ false) ⊎ (is_before_first t right ≡ false)
    at_or_after t g = elim is.2 [ inl b ↦ inl (not_before x t left b g) | inr b ↦ inr (not_before x t right b g) ]

    rest : (t : ℤ) → x ≤ℤ t → combined_by rule (value_from v' (edges_past x left) t) (value_from w' (edges_past x right) t) ≡ target t
    rest t g =
        ap (λ y. combined_by rule y (value_from w' (edges_past x right) t)) (past_values x v left t is.0 g)
        ∙ ap (combined_by rule (value_from v left t)) (past_values x w right t is.1 g)
        ∙ sym (neither (is_before_first t left) (is_before_first t right) _ _ (at_or_after t g))
        ∙ h.values t

    high_by : (t : ℤ) (a b : Bool) → x ≤ℤ t → is_before_first t (edges_past x left) ≡ a → is_before_first t (edges_past x right) ≡ b → cond (a && b) (value_from None made' t) (combined_by rule (value_from v' (edges_past x left) t) (value_from w' (edges_past x right) t)) ≡ target t
    high_by t true true g p q =
        more.after t g
        ∙ sym (ap (λ y. combined_by rule y (value_from w' (edges_past x right) t)) (values_before v' t (edges_past x left) p) ∙ ap (combined_by rule v') (values_before w' t (edges_past x right) q))
        ∙ rest t g
    high_by t true false g p q = rest t g
    high_by t false b g p q = rest t g

    high : (t : ℤ) → x ≤ℤ t → values_so_far rule made' v' (edges_past x left) w' (edges_past x right) t ≡ target t
    high t g = high_by t (is_before_first t (edges_past x left)) (is_before_first t (edges_past x right)) g refl refl

-- the same for the edges that the code built
pub combining_as : (rule : Rule) (first second made : List Edge) (v : Option ℕ) (left : List Edge) (w : Option ℕ) (right : List Edge) (x : ℤ) (made' : List Edge) (v' : Option ℕ) (left' : List Edge) (w' : Option ℕ) (right' : List Edge) → earliest left right ≡ Some x → v' ≡ value_from_on x v left → left' ≡ edges_past x left → w' ≡ value_from_on x w right → right' ≡ edges_past x right → made' ≡ with_last made (record { from = x; value = combined_by rule v' w' }) → IsCombining rule first second made v left w right → IsCombining rule first second made' v' left' w' right'
combining_as rule first second made v left w right x made' v' left' w' right' next a b c d e h =
    let done : List Edge = with_last made (record { from = x; value = combined_by rule (value_from_on x v left) (value_from_on x w right) }) in
    let made_is : made' ≡ done = e ∙ ap (λ u. with_last made (record { from = x; value = combined_by rule u w' })) a ∙ ap (λ u. with_last made (record { from = x; value = combined_by rule (value_from_on x v left) u })) c in
    subst (λ es. IsCombining rule first second es v' left' w' right') (sym made_is)
    (subst (λ u. IsCombining rule first second done u left' w' right') (sym a)
    (subst (λ es. IsCombining rule first second done (value_from_on x v left) es w' right') (sym b)
    (subst (λ u. IsCombining rule first second done (value_from_on x v left) (edges_past x left) u right') (sym c)
    (subst (λ es. IsCombining rule first second done (value_from_on x v left) (edges_past x left) (value_from_on x w right) es) (sym d) (combining_step rule first second made v left w right x next h)))))
