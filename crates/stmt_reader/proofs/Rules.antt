-- A reading reads a rule: what it finds is in the rule, all that is in the rule is found, and a fault is the
-- first one.
use Rattle.std.proofs.Common.{◌≡◌, ℕ, ◌+◌, ◌≤◌, Bool, false, ◌||◌, List, [], ◌∷◌, ◌++◌, length, Result, Ok, Err, refl, sym, ap, subst, ◌∙◌, append_assoc, length-append, arith, inl, inr}
use Rattle.std.specs.Prelude.{◌⊎◌}
use Rattle.std.proofs.lemmas.Bool.{or_parts}
use Rattle.stmt_tokens.specs.Tokens.{Token}
use Rattle.stmt_tokens.specs.Scan.{Seen, seen_token}
use Rattle.stmt_tokens.specs.Streams.{Placed, Stream, ends, stops, ◌then◌, onto, plain, size, seen_ahead, heads}
use Rattle.stmt_reader.specs.Reading.{Parser, gives, go_on, bind}
use Rattle.stmt_reader.specs.Grammar.{Rule, means, sequence}
use Rattle.stmt_reader.specs.Refusals.{is_fit, Begins}
use Rattle.stmt_reader.specs.declared.faults.Fault.{Fault}
use Rattle.stmt_reader.specs.declared.faults.Fault.TheVariants.{NoToken, Syntax, BadNumber}
use Rattle.stmt_reader.proofs.Placed.{AllFit, MisfitIn, misfit_left, misfit_right, fit-append, onto-append, plain-append, size-onto, splits, nothing_placed, ahead_onto}

-- what was found: tokens of the rule, whose numbers are i64; after them only the next token matters
pub record Found {A : Type 0} (p : Parser A) (L : Rule A) (s : Stream) (a : A) (left : Stream) : Type 0 where
  pub taken : List Placed
  pub split : s ≡ onto taken left
  pub said : L (plain taken) a
  pub fit : AllFit taken
  pub firm : (rest : Stream) → seen_ahead left ≡ seen_ahead rest → p (onto taken rest) ≡ Ok (a, rest)

-- a fault at a token: no rest makes it right, or it is a number that isn't an i64 where a number is allowed
abbrev pub StuckAt : {A : Type 0} → Parser A → Rule A → List Placed → Placed → Fault → Type 0
StuckAt p L taken t f =
    ((f ≡ Syntax t.at) × ((rest : Stream) → p (onto taken (t then rest)) ≡ Err f))
    ⊎ ((f ≡ BadNumber t.at) × (is_fit t.token ≡ false) × Begins L (plain taken ++ t.token ∷ []))

abbrev pub Stuck : {A : Type 0} → Parser A → Rule A → List Placed → Stream → Fault → Type 0
Stuck p L taken (ends q) f = f ≡ Syntax q
Stuck p L taken (stops q) f = f ≡ NoToken q
Stuck p L taken (t then left) f = StuckAt p L taken t f

-- where reading ended: after tokens that begin something of the rule, whose numbers are i64
pub record Failed {A : Type 0} (p : Parser A) (L : Rule A) (s : Stream) (f : Fault) : Type 0 where
  pub taken : List Placed
  pub left : Stream
  pub split : s ≡ onto taken left
  pub begins : Begins L (plain taken)
  pub fit : AllFit taken
  pub stuck : Stuck p L taken left f

-- all that is in the rule is found, unless a number isn't an i64
abbrev pub Agrees : {A : Type 0} → List Placed → A → Stream → Result (A × Stream) Fault → Type 0
Agrees ts a left (Ok x) = x ≡ (a, left)
Agrees ts a left (Err f) = MisfitIn ts f

-- a reading reads a rule, on streams of at most n tokens; `on` are the tokens with which it may continue
pub record Reads (n : ℕ) {A : Type 0} (p : Parser A) (L : Rule A) (on : Seen → Bool) : Type 0 where
  pub starts : Begins L []
  pub finds : (s : Stream) (a : A) (left : Stream) → size s ≤ n → p s ≡ Ok (a, left) → Found p L s a left
  pub fails : (s : Stream) (f : Fault) → size s ≤ n → p s ≡ Err f → Failed p L s f
  pub agrees : (ts : List Placed) (a : A) (left : Stream) → length ts ≤ n → L (plain ts) a → heads on left ≡ false → Agrees ts a left (p (onto ts left))

-- no token
abbrev pub none : Seen → Bool
none t = false

pub heads-none : (s : Stream) → heads none s ≡ false
heads-none (ends p) = refl
heads-none (stops p) = refl
heads-none (t then s) = refl

abbrev pub any : (Seen → Bool) → (Seen → Bool) → Seen → Bool
any c d t = c t || d t

pub heads-any : (c d : Seen → Bool) (s : Stream) → heads (any c d) s ≡ false → (heads c s ≡ false) × (heads d s ≡ false)
heads-any c d (ends p) e = (refl, refl)
heads-any c d (stops p) e = (refl, refl)
heads-any c d (t then s) e = or_parts (c (seen_token t.token)) (d (seen_token t.token)) e

-- no word of M, with nothing of `on` after it, begins with a token of `test`
abbrev pub Avoids : {B : Type 0} → (Seen → Bool) → Rule B → (Seen → Bool) → Type 0
Avoids {B} test M on = (ts : List Placed) (b : B) (left : Stream) → M (plain ts) b → heads on left ≡ false → heads test (onto ts left) ≡ false

pub avoids-none : {B : Type 0} (M : Rule B) (on : Seen → Bool) → Avoids none M on
avoids-none M on ts b left m e = heads-none (onto ts left)

-- ---- results

-- what was read and is left
pub record Same {A : Type 0} (a b : A) (s left : Stream) : Type 0 where
  pub value : a ≡ b
  pub rest : s ≡ left

abbrev pub value_of : {A : Type 0} → A → Result (A × Stream) Fault → A
value_of d (Ok x) = x.0
value_of d (Err f) = d

abbrev pub left_of : {A : Type 0} → Stream → Result (A × Stream) Fault → Stream
left_of d (Ok x) = x.1
left_of d (Err f) = d

abbrev ok : {A : Type 0} → A → Stream → Result (A × Stream) Fault
ok a s = Ok (a, s)

pub ok_same : {A : Type 0} (a b : A) (s left : Stream) → ok a s ≡ ok b left → Same a b s left
ok_same a b s left e = record { value = ap (value_of a) e; rest = ap (left_of s) e }

pub record Went {A B : Type 0} (r : Result (A × Stream) Fault) (q : A → Parser B) (y : Result (B × Stream) Fault) : Type 0 where
  pub value : A
  pub between : Stream
  pub first : r ≡ Ok (value, between)
  pub second : q value between ≡ y

pub went_on : {A B : Type 0} (r : Result (A × Stream) Fault) (q : A → Parser B) (b : B) (left : Stream) → go_on r q ≡ Ok (b, left) → Went r q (Ok (b, left))
went_on (Ok x) q b left e = record { value = x.0; between = x.1; first = refl; second = e }
went_on (Err f) q b left e = absurd cc

pub went_wrong : {A B : Type 0} (r : Result (A × Stream) Fault) (q : A → Parser B) (f : Fault) → go_on r q ≡ Err f → (r ≡ Err f) ⊎ Went r q (Err f)
went_wrong (Ok x) q f e = inr (record { value = x.0; between = x.1; first = refl; second = e })
went_wrong (Err g) q f e = inl cc

-- ---- equal readings, and equal rules

pub record Alike {A : Type 0} (L M : Rule A) : Type 0 where
  pub to : (ts : List Token) (a : A) → L ts a → M ts a
  pub back : (ts : List Token) (a : A) → M ts a → L ts a

pub alike-refl : {A : Type 0} (L : Rule A) → Alike L L
alike-refl L = record { to = λ _ _ l. l; back = λ _ _ l. l }

begins_alike : {A : Type 0} (L M : Rule A) (ts : List Token) → Alike L M → Begins L ts → Begins M ts
begins_alike L M ts same b = (b.0, b.1, same.to (ts ++ b.0) b.1 b.2)

stuck_alike : {A : Type 0} (p q : Parser A) (L M : Rule A) (taken : List Placed) (left : Stream) (f : Fault) → ((s : Stream) → q s ≡ p s) → Alike L M → Stuck p L taken left f → Stuck q M taken left f
stuck_alike p q L M taken (ends r) f e same h = h
stuck_alike p q L M taken (stops r) f e same h = h
stuck_alike p q L M taken (t then left) f e same (inl h) = inl (h.0, λ rest. e (onto taken (t then rest)) ∙ h.1 rest)
stuck_alike p q L M taken (t then left) f e same (inr h) = inr (h.0, h.1, begins_alike L M (plain taken ++ t.token ∷ []) same h.2)

pub reads_alike : (n : ℕ) {A : Type 0} (p q : Parser A) (L M : Rule A) (c d : Seen → Bool) → ((s : Stream) → q s ≡ p s) → Alike L M → ((s : Stream) → heads d s ≡ false → heads c s ≡ false) → Reads n p L c → Reads n q M d
reads_alike n p q L M c d e same weaker r = record {
  starts = begins_alike L M [] same r.starts;
  finds = λ s a left le h.
      let f = r.finds s a left le (sym (e s) ∙ h) in
      record { taken = f.taken; split = f.split; said = same.to (plain f.taken) a f.said; fit = f.fit; firm = λ rest k. e (onto f.taken rest) ∙ f.firm rest k };
  fails = λ s f le h.
      let g = r.fails s f le (sym (e s) ∙ h) in
      record { taken = g.taken; left = g.left; split = g.split; begins = begins_alike L M (plain g.taken) same g.begins; fit = g.fit; stuck = stuck_alike p q L M g.taken g.left f e same g.stuck };
  agrees = λ ts a left le m free. subst (λ x. Agrees ts a left x) (sym (e (onto ts left))) (r.agrees ts a left le (same.back (plain ts) a m) (weaker left free));
}

-- ---- no token

pub reads_gives : (n : ℕ) {A : Type 0} (a : A) → Reads n (gives a) (means a) none
unfolding means
reads_gives n a = record {
  starts = ([], a, (refl, refl));
  finds = λ s b left le h.
      let k = ok_same a b s left h in
      record { taken = []; split = k.rest; said = (refl, k.value); fit = tt; firm = λ rest _. ap (λ x. ok x rest) k.value };
  fails = λ s f le h. absurd cc;
  agrees = λ ts b left le m free. rw (nothing_placed ts m.0) (ap (λ x. (x, left)) m.1);
}

-- ---- in order

begins_first : {A B : Type 0} (L : Rule A) (M : A → Rule B) (us : List Token) → ((a : A) → Begins (M a) []) → Begins L us → Begins (sequence L M) us
unfolding sequence
begins_first L M us rest b =
    let m = rest b.1 in
    (b.0 ++ m.0, m.1, (us ++ b.0, m.0, b.1, sym (append_assoc us b.0 m.0), b.2, m.2))

begins_second : {A B : Type 0} (L : Rule A) (M : A → Rule B) (us vs : List Token) (a : A) → L us a → Begins (M a) vs → Begins (sequence L M) (us ++ vs)
unfolding sequence
begins_second L M us vs a l b = (b.0, b.1, (us, vs ++ b.0, a, append_assoc us vs b.0, l, b.2))

stuck_first : {A B : Type 0} (p : Parser A) (q : A → Parser B) (L : Rule A) (M : A → Rule B) (taken : List Placed) (left : Stream) (f : Fault) → ((a : A) → Begins (M a) []) → Stuck p L taken left f → Stuck (bind p q) (sequence L M) taken left f
unfolding bind
stuck_first p q L M taken (ends r) f rest h = h
stuck_first p q L M taken (stops r) f rest h = h
stuck_first p q L M taken (t then left) f rest (inl h) = inl (h.0, λ others. rw (h.1 others) refl)
stuck_first p q L M taken (t then left) f rest (inr h) = inr (h.0, h.1, begins_first L M (plain taken ++ t.token ∷ []) rest h.2)

-- the second reading on the rest that the first one left
second_is : {A B : Type 0} (p : Parser A) (q : A → Parser B) (us vs : List Placed) (a : A) (r : Stream) → p (onto us (onto vs r)) ≡ Ok (a, onto vs r) → bind p q (onto (us ++ vs) r) ≡ q a (onto vs r)
unfolding bind
second_is p q us vs a r e = rw (onto-append us vs r, e) refl

stuck_second : {A B : Type 0} (p : Parser A) (q : A → Parser B) (L : Rule A) (M : A → Rule B) (us vs : List Placed) (a : A) (between left : Stream) (f : Fault) → L (plain us) a
    → ((rest : Stream) → seen_ahead between ≡ seen_ahead rest → p (onto us rest) ≡ Ok (a, rest)) → between ≡ onto vs left → Stuck (q a) (M a) vs left f → Stuck (bind p q) (sequence L M) (us ++ vs) left f
stuck_second p q L M us vs a between (ends r) f l firm e h = h
stuck_second p q L M us vs a between (stops r) f l firm e h = h
stuck_second p q L M us vs a between (t then left) f l firm e (inl h) =
    inl (h.0, λ rest. second_is p q us vs a (t then rest) (firm (onto vs (t then rest)) (ap seen_ahead e ∙ ahead_onto vs (t then left) (t then rest) refl)) ∙ h.1 rest)
stuck_second p q L M us vs a between (t then left) f l firm e (inr h) =
    let b = begins_second L M (plain us) (plain vs ++ t.token ∷ []) a l h.2 in
    let k : plain us ++ (plain vs ++ t.token ∷ []) ≡ plain (us ++ vs) ++ t.token ∷ [] = sym (append_assoc (plain us) (plain vs) (t.token ∷ [])) ∙ ap (λ x. x ++ t.token ∷ []) (sym (plain-append us vs)) in
    inr (h.0, h.1, subst (λ x. Begins (sequence L M) x) k b)

agrees_more : {B : Type 0} (us vs : List Placed) (b : B) (left : Stream) (r : Result (B × Stream) Fault) → Agrees vs b left r → Agrees (us ++ vs) b left r
agrees_more us vs b left (Ok x) h = h
agrees_more us vs b left (Err f) h = misfit_right us vs f h

pub agrees_bind : {A B : Type 0} (r : Result (A × Stream) Fault) (q : A → Parser B) (us vs : List Placed) (a : A) (b : B) (left : Stream) → Agrees us a (onto vs left) r → Agrees vs b left (q a (onto vs left)) → Agrees (us ++ vs) b left (go_on r q)
agrees_bind (Ok x) q us vs a b left h k = subst (λ y. Agrees (us ++ vs) b left (q y.0 y.1)) (sym h) (agrees_more us vs b left (q a (onto vs left)) k)
agrees_bind (Err f) q us vs a b left h k = misfit_left us vs f h

pub found_both : {A B : Type 0} (p : Parser A) (q : A → Parser B) (L : Rule A) (M : A → Rule B) (s between left : Stream) (a : A) (b : B) → Found p L s a between → Found (q a) (M a) between b left → Found (bind p q) (sequence L M) s b left
unfolding sequence
found_both p q L M s between left a b f g = record {
  taken = f.taken ++ g.taken;
  split = f.split ∙ ap (onto f.taken) g.split ∙ sym (onto-append f.taken g.taken left);
  said = (plain f.taken, plain g.taken, a, plain-append f.taken g.taken, f.said, g.said);
  fit = fit-append f.taken g.taken f.fit g.fit;
  firm = λ rest k. second_is p q f.taken g.taken a rest (f.firm (onto g.taken rest) (ap seen_ahead g.split ∙ ahead_onto g.taken left rest k)) ∙ g.firm rest k;
}

pub failed_first : {A B : Type 0} (p : Parser A) (q : A → Parser B) (L : Rule A) (M : A → Rule B) (s : Stream) (f : Fault) → ((a : A) → Begins (M a) []) → Failed p L s f → Failed (bind p q) (sequence L M) s f
failed_first p q L M s f rest g = record {
  taken = g.taken;
  left = g.left;
  split = g.split;
  begins = begins_first L M (plain g.taken) rest g.begins;
  fit = g.fit;
  stuck = stuck_first p q L M g.taken g.left f rest g.stuck;
}

pub failed_second : {A B : Type 0} (p : Parser A) (q : A → Parser B) (L : Rule A) (M : A → Rule B) (s between : Stream) (a : A) (f : Fault) → Found p L s a between → Failed (q a) (M a) between f → Failed (bind p q) (sequence L M) s f
failed_second p q L M s between a f g h = record {
  taken = g.taken ++ h.taken;
  left = h.left;
  split = g.split ∙ ap (onto g.taken) h.split ∙ sym (onto-append g.taken h.taken h.left);
  begins = subst (λ x. Begins (sequence L M) x) (sym (plain-append g.taken h.taken)) (begins_second L M (plain g.taken) (plain h.taken) a g.said h.begins);
  fit = fit-append g.taken h.taken g.fit h.fit;
  stuck = stuck_second p q L M g.taken h.taken a between h.left f g.said g.firm h.split h.stuck;
}

shorter : (ts : List Placed) (s left : Stream) (n : ℕ) → s ≡ onto ts left → size s ≤ n → size left ≤ n
shorter ts s left n e le = omega (arith, ap size e, size-onto ts left)

bind_fails : (n : ℕ) {A B : Type 0} (p : Parser A) (q : A → Parser B) (L : Rule A) (M : A → Rule B) (c d : Seen → Bool) (s : Stream) (f : Fault) → Reads n p L c → ((a : A) → Reads n (q a) (M a) d) → size s ≤ n → (p s ≡ Err f) ⊎ Went (p s) q (Err f) → Failed (bind p q) (sequence L M) s f
bind_fails n p q L M c d s f r t le (inl e) = failed_first p q L M s f (λ a. (t a).starts) (r.fails s f le e)
bind_fails n p q L M c d s f r t le (inr w) =
    let g = r.finds s w.value w.between le w.first in
    failed_second p q L M s w.between w.value f g ((t w.value).fails w.between f (shorter g.taken s w.between n g.split le) w.second)

bind_agrees : (n : ℕ) {A B : Type 0} (p : Parser A) (q : A → Parser B) (L : Rule A) (M : A → Rule B) (c d : Seen → Bool) (ts : List Placed) (b : B) (left : Stream) → Reads n p L c → ((a : A) → Reads n (q a) (M a) d) → ((a : A) → Avoids c (M a) d)
    → length ts ≤ n → sequence L M (plain ts) b → heads d left ≡ false → Agrees ts b left (bind p q (onto ts left))
unfolding bind sequence
bind_agrees n p q L M c d ts b left r t apart le (us, vs, a, e, l, m) free =
    let w = splits ts us vs e in
    let l' : L (plain w.front) a = subst (λ x. L x a) (sym w.front-is) l in
    let m' : M a (plain w.back) b = subst (λ x. M a x b) (sym w.back-is) m in
    let len : length ts ≡ length w.front + length w.back = ap length w.both ∙ length-append w.front w.back in
    let one = r.agrees w.front a (onto w.back left) (omega arith) l' (apart a w.back b left m' free) in
    let two = (t a).agrees w.back b left (omega arith) m' free in
    let both = agrees_bind (p (onto w.front (onto w.back left))) q w.front w.back a b left one two in
    subst (λ x. Agrees x b left (go_on (p (onto x left)) q)) (sym w.both) (subst (λ x. Agrees (w.front ++ w.back) b left (go_on (p x) q)) (sym (onto-append w.front w.back left)) both)

pub unbound : {A B : Type 0} (p : Parser A) (q : A → Parser B) (s : Stream) (b : B) (left : Stream) → bind p q s ≡ Ok (b, left) → Went (p s) q (Ok (b, left))
unfolding bind
unbound p q s b left e = went_on (p s) q b left e

pub unbound_fails : {A B : Type 0} (p : Parser A) (q : A → Parser B) (s : Stream) (f : Fault) → bind p q s ≡ Err f → (p s ≡ Err f) ⊎ Went (p s) q (Err f)
unfolding bind
unbound_fails p q s f e = went_wrong (p s) q f e

bind_finds : (n : ℕ) {A B : Type 0} (p : Parser A) (q : A → Parser B) (L : Rule A) (M : A → Rule B) (c d : Seen → Bool) → Reads n p L c → ((a : A) → Reads n (q a) (M a) d)
    → (s : Stream) (b : B) (left : Stream) → size s ≤ n → bind p q s ≡ Ok (b, left) → Found (bind p q) (sequence L M) s b left
bind_finds n p q L M c d r t s b left le e =
    let w = unbound p q s b left e in
    let g = r.finds s w.value w.between le w.first in
    found_both p q L M s w.between left w.value b g ((t w.value).finds w.between b left (shorter g.taken s w.between n g.split le) w.second)

pub reads_bind : (n : ℕ) {A B : Type 0} {p : Parser A} {q : A → Parser B} {L : Rule A} {M : A → Rule B} {c d : Seen → Bool} → Reads n p L c → ((a : A) → Reads n (q a) (M a) d) → ((a : A) → Avoids c (M a) d) → Reads n (bind p q) (sequence L M) d
reads_bind n {p = p} {q = q} {L = L} {M = M} {c = c} {d = d} r t apart = record {
  starts = begins_first L M [] (λ a. (t a).starts) r.starts;
  finds = bind_finds n p q L M c d r t;
  fails = λ s f le h. bind_fails n p q L M c d s f r t le (unbound_fails p q s f h);
  agrees = λ ts b left le m free. bind_agrees n p q L M c d ts b left r t apart le m free;
}

-- in order, if the first never continues
pub reads_then : (n : ℕ) {A B : Type 0} {p : Parser A} {q : A → Parser B} {L : Rule A} {M : A → Rule B} {d : Seen → Bool} → Reads n p L none → ((a : A) → Reads n (q a) (M a) d) → Reads n (bind p q) (sequence L M) d
reads_then n {M = M} {d = d} r t = reads_bind n r t (λ a. avoids-none (M a) d)
