-- Readings of one token, and choices by the next token.
use Rattle.std.proofs.Common.{◌≡◌, ℕ, zero, suc, ◌+◌, ◌<◌, ◌≤◌, Bool, true, false, cond, eqb, List, [], ◌∷◌, ◌++◌, length, Option, Some, None, Result, Ok, Err, refl, sym, ap, subst, ◌∙◌, length-append, ℤ, pos, arith, inl, inr}
use Rattle.std.specs.Prelude.{◌⊎◌}
use Rattle.std.specs.Str.{bytes_eq}
use Rattle.std.proofs.lemmas.Bool.{cases_Bool, eqb-true, eq-eqb}
use Rattle.std.proofs.lemmas.Slice.Eq.{bytes_eq-Decides}
use Rattle.stmt_tokens.specs.Tokens.{Token, word, number, quoted, mark}
use Rattle.stmt_syntax.specs.Limits.{is_i64}
use Rattle.stmt_tokens.specs.Scan as scan
use Rattle.stmt_tokens.specs.Scan.{Seen, seen_token, i64_of}
use Rattle.stmt_tokens.specs.Words.{is_keyword, is_spelled, keyword_text, is_mark, mark_number, number_of}
use Rattle.stmt_tokens.specs.Streams.{Placed, Stream, ends, stops, ◌then◌, onto, plain, size, seen_ahead, heads, tail, place}
use Rattle.stmt_reader.specs.Reading.{fault_here, Parser, go_on, bind, token_value, one, token_parser, fitting_number, takes, choose}
use Rattle.stmt_reader.specs.Reading as read
use Rattle.stmt_reader.specs.Grammar as rule
use Rattle.stmt_reader.specs.Grammar.{Rule, means, sequence, either}
use Rattle.stmt_reader.specs.Refusals.{is_fit, Begins}
use Rattle.stmt_reader.specs.declared.faults.Fault.{Fault}
use Rattle.stmt_reader.specs.declared.faults.Fault.TheVariants.{BadNumber}
use Rattle.stmt_tokens.specs.declared.keywords.Keyword.{Keyword}
use Rattle.stmt_tokens.specs.declared.tokens.Mark.{Mark}
use Rattle.stmt_tokens.specs.declared.tokens.Mark.TheVariants as marks
use Rattle.stmt_reader.proofs.Loops.{wanted_less, ok_unit}
use Rattle.stmt_reader.proofs.Placed.{single, nothing_placed, splits, onto-append, heads_onto}
use Rattle.stmt_reader.proofs.Rules.{left_of, Found, Failed, StuckAt, Stuck, Agrees, Reads, none, heads-none, any, heads-any, Avoids, Went, unbound, unbound_fails, found_both, failed_first, failed_second, agrees_bind, Alike, alike-refl, reads_alike}

-- ---- results

abbrev some_of : {A : Type 0} → Result (A × Stream) Fault → Option A
some_of (Ok x) = Some x.0
some_of (Err f) = None

said_ok : {A : Type 0} (s : Stream) (o : Option A) (a : A) (left : Stream) → token_value s o ≡ Ok (a, left) → (o ≡ Some a) × (tail s ≡ left)
said_ok s None a left e = absurd cc
said_ok s (Some b) a left e = (ap some_of e, ap (left_of s) e)

said_err : {A : Type 0} (s : Stream) (o : Option A) (f : Fault) → token_value s o ≡ Err f → (o ≡ None) × (f ≡ fault_here s)
said_err s None f e = (refl, cc)
said_err s (Some b) f e = absurd cc

-- ---- one token

-- a reading that refuses numbers that aren't i64 takes only fit tokens
fit_number : (test : Seen → Bool) (z : ℤ) (b : Bool) → test (scan.number None) ≡ false → test (scan.number (cond b (Some z) None)) ≡ true → b ≡ true
fit_number test z true n e = refl
fit_number test z false n e = sym n ∙ e

pub fit_by_test : (test : Seen → Bool) (t : Token) → test (scan.number None) ≡ false → test (seen_token t) ≡ true → is_fit t ≡ true
fit_by_test test (word w) n e = refl
fit_by_test test (number z) n e = fit_number test z (is_i64 z) n e
fit_by_test test (quoted w) n e = refl
fit_by_test test (mark m) n e = refl

fit_number_of : {A : Type 0} (f : Seen → Option A) (z : ℤ) (a : A) (b : Bool) → f (scan.number None) ≡ None → f (scan.number (cond b (Some z) None)) ≡ Some a → b ≡ true
fit_number_of f z a true n e = refl
fit_number_of f z a false n e = absurd cc

fit_by_one : {A : Type 0} (f : Seen → Option A) (t : Token) (a : A) → f (scan.number None) ≡ None → f (seen_token t) ≡ Some a → is_fit t ≡ true
fit_by_one f (word w) a n e = refl
fit_by_one f (number z) a n e = fit_number_of f z a (is_i64 z) n e
fit_by_one f (quoted w) a n e = refl
fit_by_one f (mark m) a n e = refl

one_found : {A : Type 0} (f : Seen → Option A) (s : Stream) (a : A) (left : Stream) → f (scan.number None) ≡ None → one f s ≡ Ok (a, left) → Found (one f) (rule.one f) s a left
unfolding one rule.one
one_found f (ends q) a left n e = absurd cc
one_found f (stops q) a left n e = absurd cc
one_found f (t then s) a left n e =
    let k = said_ok (t then s) (f (seen_token t.token)) a left e in
    record { taken = t ∷ []; split = ap (λ r. t then r) k.1; said = (t.token, refl, k.0); fit = (fit_by_one f t.token a n k.0, tt); firm = λ rest _. rw k.0 refl }

one_failed : {A : Type 0} (f : Seen → Option A) (s : Stream) (g : Fault) → Begins (rule.one f) [] → one f s ≡ Err g → Failed (one f) (rule.one f) s g
unfolding one
one_failed f (ends q) g b e = record { taken = []; left = ends q; split = refl; begins = b; fit = tt; stuck = cc }
one_failed f (stops q) g b e = record { taken = []; left = stops q; split = refl; begins = b; fit = tt; stuck = cc }
one_failed f (t then s) g b e =
    let k = said_err (t then s) (f (seen_token t.token)) g e in
    record { taken = []; left = t then s; split = refl; begins = b; fit = tt; stuck = inl (k.1, λ rest. rw k.0 (ap Err (sym k.1))) }

one_agrees : {A : Type 0} (f : Seen → Option A) (ts : List Placed) (a : A) (left : Stream) → rule.one f (plain ts) a → Agrees ts a left (one f (onto ts left))
unfolding one rule.one
one_agrees f ts a left (t, e, k) =
    let x = single ts t e in
    let h : f (seen_token x.at.token) ≡ Some a = ap (λ u. f (seen_token u)) x.is ∙ k in
    subst (λ us. Agrees us a left (one f (onto us left))) (sym x.only) (rw h refl)

pub reads_one : (n : ℕ) {A : Type 0} (f : Seen → Option A) → f (scan.number None) ≡ None → Begins (rule.one f) [] → Reads n (one f) (rule.one f) none
reads_one n f rejects b = record {
  starts = b;
  finds = λ s a left le e. one_found f s a left rejects e;
  fails = λ s g le e. one_failed f s g b e;
  agrees = λ ts a left le m free. one_agrees f ts a left m;
}

abbrev some_unit : Option (Unit {0})
some_unit = Some tt

-- a token that passes a test has no other meaning
abbrev passing : (Seen → Bool) → Seen → Option (Unit {0})
passing test t = cond (test t) some_unit None

passing_one : (b : Bool) (s : Stream) → cond b (ok_unit (tail s)) (Err (fault_here s)) ≡ token_value s (cond b some_unit None)
passing_one true s = refl
passing_one false s = refl

wanted_is_one : (test : Seen → Bool) (s : Stream) → token_parser test s ≡ one (passing test) s
unfolding token_parser one
wanted_is_one test (ends q) = refl
wanted_is_one test (stops q) = refl
wanted_is_one test (t then s) = passing_one (test (seen_token t.token)) (t then s)

passes_so : (b : Bool) (u : Unit {0}) → cond b some_unit None ≡ Some u → b ≡ true
passes_so true u e = refl
passes_so false u e = absurd cc

passing_alike : (test : Seen → Bool) → Alike (rule.one (passing test)) (rule.token_rule test)
unfolding rule.one rule.token_rule
passing_alike test = record {
  to = λ ts u (t, e, k). (t, e, passes_so (test (seen_token t)) u k);
  back = λ ts u (t, e, k). (t, e, rw k refl);
}

begins_wanted : (test : Seen → Bool) (t : Token) → test (seen_token t) ≡ true → Begins (rule.token_rule test) []
unfolding rule.token_rule
begins_wanted test t e = (t ∷ [], tt, (t, refl, e))

begins_passing : (test : Seen → Bool) (t : Token) → test (seen_token t) ≡ true → Begins (rule.one (passing test)) []
unfolding rule.one
begins_passing test t e = (t ∷ [], tt, (t, refl, rw e refl))

pub reads_wanted : (n : ℕ) (test : Seen → Bool) (t : Token) → test (scan.number None) ≡ false → test (seen_token t) ≡ true → Reads n (token_parser test) (rule.token_rule test) none
reads_wanted n test t rejects e =
    reads_alike n (one (passing test)) (token_parser test) (rule.one (passing test)) (rule.token_rule test) none none (wanted_is_one test) (passing_alike test) (λ s h. h)
    (reads_one n (passing test) (rw rejects refl) (begins_passing test t e))

pub same_text : (w : List ℕ) → bytes_eq w w ≡ true
same_text w = (bytes_eq-Decides w w).1 refl

pub reads_keyword : (n : ℕ) (k : Keyword) → Reads n (read.keyword k) (rule.keyword k) none
reads_keyword n k = reads_wanted n (is_keyword k) (word (keyword_text k)) refl (same_text (keyword_text k))

pub same_mark : (m : Mark) → eqb (mark_number m) (mark_number m) ≡ true
same_mark m = eq-eqb (mark_number m) (mark_number m) refl

pub reads_mark : (n : ℕ) (m : Mark) → Reads n (read.mark m) (rule.mark m) none
reads_mark n m = reads_wanted n (is_mark m) (mark m) refl (same_mark m)

-- ---- a number

-- a token that is read as a number
record IsRead (k : Token) (s : Stream) (a : ℤ) (left : Stream) : Type 0 where
  token : k ≡ number a
  fits : is_i64 a ≡ true
  rest : tail s ≡ left

abbrev int_of : ℤ → Result (ℤ × Stream) Fault → ℤ
int_of d (Ok x) = x.0
int_of d (Err f) = d

abbrev rest_of : Stream → Result (ℤ × Stream) Fault → Stream
rest_of d (Ok x) = x.1
rest_of d (Err f) = d

number_read : (b : Bool) (z : ℤ) (s : Stream) (a : ℤ) (left : Stream) → b ≡ is_i64 z → fitting_number s (Some (cond b (Some z) None)) ≡ Ok (a, left) → IsRead (number z) s a left
number_read true z s a left b-is e =
    let k : z ≡ a = ap (int_of z) e in
    record { token = ap number k; fits = sym (b-is ∙ ap is_i64 k); rest = ap (rest_of s) e }
number_read false z s a left b-is e = absurd cc

token_read : (k : Token) (s : Stream) (a : ℤ) (left : Stream) → fitting_number s (number_of (seen_token k)) ≡ Ok (a, left) → IsRead k s a left
token_read (word w) s a left e = absurd cc
token_read (number z) s a left e = number_read (is_i64 z) z s a left refl e
token_read (quoted w) s a left e = absurd cc
token_read (mark m) s a left e = absurd cc

number_found : (s : Stream) (a : ℤ) (left : Stream) → read.number s ≡ Ok (a, left) → Found read.number rule.number s a left
unfolding read.number rule.number
number_found (ends q) a left e = absurd cc
number_found (stops q) a left e = absurd cc
number_found (t then s) a left e =
    let k = token_read t.token (t then s) a left e in
    record { taken = t ∷ []; split = ap (λ r. t then r) k.rest; said = ap (λ u. u ∷ []) k.token; fit = (ap is_fit k.token ∙ k.fits, tt); firm = λ rest _. rw (k.token, k.fits) refl }

-- a token that isn't read as a number isn't one, or doesn't fit 64 bits
number_unread : (b : Bool) (z : ℤ) (s : Stream) (f : Fault) → b ≡ is_i64 z → fitting_number s (Some (cond b (Some z) None)) ≡ Err f → (f ≡ BadNumber (place s)) × (is_i64 z ≡ false)
number_unread true z s f b-is e = absurd cc
number_unread false z s f b-is e = (cc, sym b-is)

token_unread : (k : Token) (s : Stream) (f : Fault) → fitting_number s (number_of (seen_token k)) ≡ Err f → ((number_of (seen_token k) ≡ None) × (f ≡ fault_here s)) ⊎ ((z : ℤ) × (k ≡ number z) × (f ≡ BadNumber (place s)) × (is_i64 z ≡ false))
token_unread (word w) s f e = inl (refl, cc)
token_unread (number z) s f e = let h = number_unread (is_i64 z) z s f refl e in inr (z, refl, h.0, h.1)
token_unread (quoted w) s f e = inl (refl, cc)
token_unread (mark m) s f e = inl (refl, cc)

begins_number : Begins rule.number []
unfolding rule.number
begins_number = (number (pos 0) ∷ [], pos 0, refl)

begins_with_number : (t : Token) (z : ℤ) → t ≡ number z → Begins rule.number ([] ++ t ∷ [])
unfolding rule.number
begins_with_number t z e = ([], z, ap (λ u. u ∷ []) e)

number_stuck : (t : Placed) (s : Stream) (f : Fault) → ((number_of (seen_token t.token) ≡ None) × (f ≡ fault_here (t then s))) ⊎ ((z : ℤ) × (t.token ≡ number z) × (f ≡ BadNumber (place (t then s))) × (is_i64 z ≡ false)) → StuckAt read.number rule.number [] t f
unfolding read.number
number_stuck t s f (inl h) = inl (h.1, λ rest. rw h.0 (ap Err (sym h.1)))
number_stuck t s f (inr h) = inr (h.2, ap is_fit h.1 ∙ h.3, begins_with_number t.token h.0 h.1)

number_failed : (s : Stream) (f : Fault) → read.number s ≡ Err f → Failed read.number rule.number s f
unfolding read.number
number_failed (ends q) f e = record { taken = []; left = ends q; split = refl; begins = begins_number; fit = tt; stuck = cc }
number_failed (stops q) f e = record { taken = []; left = stops q; split = refl; begins = begins_number; fit = tt; stuck = cc }
number_failed (t then s) f e = record { taken = []; left = t then s; split = refl; begins = begins_number; fit = tt; stuck = number_stuck t s f (token_unread t.token (t then s) f e) }

number_agrees_at : (b : Bool) (x : Placed) (z : ℤ) (left : Stream) → b ≡ is_i64 z → x.token ≡ number z → Agrees (x ∷ []) z left (fitting_number (x then left) (Some (cond b (Some z) None)))
number_agrees_at true x z left b-is e = refl
number_agrees_at false x z left b-is e = inl (ap is_fit e ∙ sym b-is, refl)

number_agrees : (ts : List Placed) (z : ℤ) (left : Stream) → rule.number (plain ts) z → Agrees ts z left (read.number (onto ts left))
unfolding read.number rule.number
number_agrees ts z left e =
    let x = single ts (number z) e in
    subst (λ us. Agrees us z left (read.number (onto us left))) (sym x.only) (rw x.is (number_agrees_at (is_i64 z) x.at z left refl x.is))

pub reads_number : (n : ℕ) → Reads n read.number rule.number none
reads_number n = record {
  starts = begins_number;
  finds = λ s a left le e. number_found s a left e;
  fails = λ s f le e. number_failed s f e;
  agrees = λ ts a left le m free. number_agrees ts a left m;
}

-- ---- past a token

-- a reading after a token, on streams of at most n tokens with that one
abbrev pub Inner : ℕ → {A : Type 0} → Parser A → Rule A → (Seen → Bool) → Type 0
Inner zero p L c = Unit {0}
Inner (suc m) p L c = Reads m p L c

pub inner_of : {A : Type 0} {p : Parser A} {L : Rule A} {c : Seen → Bool} (n : ℕ) → ((m : ℕ) → Reads m p L c) → Inner n p L c
inner_of zero r = tt
inner_of (suc m) r = r m

inner_finds : (n : ℕ) {A : Type 0} (p : Parser A) (L : Rule A) (c : Seen → Bool) (s : Stream) (a : A) (left : Stream) → Inner n p L c → size s < n → p s ≡ Ok (a, left) → Found p L s a left
inner_finds zero p L c s a left r lt e = absurd (omega arith)
inner_finds (suc m) p L c s a left r lt e = r.finds s a left (omega arith) e

inner_fails : (n : ℕ) {A : Type 0} (p : Parser A) (L : Rule A) (c : Seen → Bool) (s : Stream) (f : Fault) → Inner n p L c → size s < n → p s ≡ Err f → Failed p L s f
inner_fails zero p L c s f r lt e = absurd (omega arith)
inner_fails (suc m) p L c s f r lt e = r.fails s f (omega arith) e

inner_agrees : (n : ℕ) {A : Type 0} (p : Parser A) (L : Rule A) (c : Seen → Bool) (ts : List Placed) (a : A) (left : Stream) → Inner n p L c → length ts < n → L (plain ts) a → heads c left ≡ false → Agrees ts a left (p (onto ts left))
inner_agrees zero p L c ts a left r lt m free = absurd (omega arith)
inner_agrees (suc k) p L c ts a left r lt m free = r.agrees ts a left (omega arith) m free

abbrev past : {A : Type 0} → (Seen → Bool) → Parser A → Parser A
past test p = bind (token_parser test) (λ _. p)

abbrev pub behind : {A : Type 0} → (Seen → Bool) → Rule A → Rule A
behind test L = sequence (rule.token_rule test) (λ _. L)

past_finds : (n : ℕ) {A : Type 0} (test : Seen → Bool) (p : Parser A) (L : Rule A) (c : Seen → Bool) (s : Stream) (a : A) (left : Stream) → Reads n (token_parser test) (rule.token_rule test) none → Inner n p L c → size s ≤ n → past test p s ≡ Ok (a, left) → Found (past test p) (behind test L) s a left
past_finds n test p L c s a left w r le e =
    let k = unbound (token_parser test) (λ _. p) s a left e in
    let lt = wanted_less test s k.value k.between k.first in
    found_both (token_parser test) (λ _. p) (rule.token_rule test) (λ _. L) s k.between left k.value a (w.finds s k.value k.between le k.first) (inner_finds n p L c k.between a left r (omega arith) k.second)

past_fails : (n : ℕ) {A : Type 0} (test : Seen → Bool) (p : Parser A) (L : Rule A) (c : Seen → Bool) (s : Stream) (f : Fault) → Reads n (token_parser test) (rule.token_rule test) none → Inner n p L c → Begins L [] → size s ≤ n
    → (token_parser test s ≡ Err f) ⊎ Went (token_parser test s) (λ _. p) (Err f) → Failed (past test p) (behind test L) s f
past_fails n test p L c s f w r b le (inl e) = failed_first (token_parser test) (λ _. p) (rule.token_rule test) (λ _. L) s f (λ _. b) (w.fails s f le e)
past_fails n test p L c s f w r b le (inr k) =
    let lt = wanted_less test s k.value k.between k.first in
    failed_second (token_parser test) (λ _. p) (rule.token_rule test) (λ _. L) s k.between k.value f (w.finds s k.value k.between le k.first) (inner_fails n p L c k.between f r (omega arith) k.second)

one_long : (test : Seen → Bool) (ts : List Placed) (u : Unit {0}) → rule.token_rule test (plain ts) u → length ts ≡ 1
unfolding rule.token_rule
one_long test ts u (t, e, k) = ap length (single ts t e).only

past_agrees : (n : ℕ) {A : Type 0} (test : Seen → Bool) (p : Parser A) (L : Rule A) (c : Seen → Bool) (ts : List Placed) (a : A) (left : Stream) → Reads n (token_parser test) (rule.token_rule test) none → Inner n p L c → length ts ≤ n
    → behind test L (plain ts) a → heads c left ≡ false → Agrees ts a left (past test p (onto ts left))
unfolding bind sequence
past_agrees n test p L c ts a left w r le (us, vs, u, e, l, m) free =
    let x = splits ts us vs e in
    let l' : rule.token_rule test (plain x.front) u = subst (λ y. rule.token_rule test y u) (sym x.front-is) l in
    let m' : L (plain x.back) a = subst (λ y. L y a) (sym x.back-is) m in
    let len : length ts ≡ length x.front + length x.back = ap length x.both ∙ length-append x.front x.back in
    let short : length x.front ≡ 1 = one_long test x.front u l' in
    let first = w.agrees x.front u (onto x.back left) (omega arith) l' (heads-none (onto x.back left)) in
    let second = inner_agrees n p L c x.back a left r (omega arith) m' free in
    let both = agrees_bind (token_parser test (onto x.front (onto x.back left))) (λ _. p) x.front x.back u a left first second in
    subst (λ y. Agrees y a left (go_on (token_parser test (onto y left)) (λ _. p))) (sym x.both) (subst (λ y. Agrees (x.front ++ x.back) a left (go_on (token_parser test y) (λ _. p))) (sym (onto-append x.front x.back left)) both)

begins_behind : {A : Type 0} (test : Seen → Bool) (t : Token) (L : Rule A) → test (seen_token t) ≡ true → Begins L [] → Begins (behind test L) []
unfolding sequence rule.token_rule
begins_behind test t L e b = (t ∷ b.0, b.1, (t ∷ [], b.0, tt, refl, (t, refl, e), b.2))

pub reads_past : (n : ℕ) {A : Type 0} (test : Seen → Bool) (t : Token) (p : Parser A) (L : Rule A) (c : Seen → Bool) → test (scan.number None) ≡ false → test (seen_token t) ≡ true → Inner n p L c → Begins L [] → Reads n (past test p) (behind test L) c
reads_past n test t p L c rejects e r b =
    let w = reads_wanted n test t rejects e in
    record {
      starts = begins_behind test t L e b;
      finds = λ s a left le h. past_finds n test p L c s a left w r le h;
      fails = λ s f le h. past_fails n test p L c s f w r b le (unbound_fails (token_parser test) (λ _. p) s f h);
      agrees = λ ts a left le m free. past_agrees n test p L c ts a left w r le m free;
    }

-- ---- one way or another

-- each word of the rule begins with a token that passes the test
abbrev pub Leads : {A : Type 0} → (Seen → Bool) → Rule A → Type 0
Leads {A} test L = (ts : List Placed) (a : A) (left : Stream) → L (plain ts) a → heads test (onto ts left) ≡ true

choose_first : {A : Type 0} (test : Seen → Bool) (p q : Parser A) (s : Stream) → heads test s ≡ true → choose test p q s ≡ p s
unfolding choose
choose_first test p q s e = rw e refl

choose_second : {A : Type 0} (test : Seen → Bool) (p q : Parser A) (s : Stream) → heads test s ≡ false → choose test p q s ≡ q s
unfolding choose
choose_second test p q s e = rw e refl

-- the test says the same of each stream that begins as this one
still : (test : Seen → Bool) (b : Bool) (s : Stream) (taken : List Placed) (l r : Stream) → heads test s ≡ b → s ≡ onto taken l → seen_ahead l ≡ seen_ahead r → heads test (onto taken r) ≡ b
still test b s taken l r e split k = heads_onto test taken r l (sym k) ∙ ap (heads test) (sym split) ∙ e

stuck_by : {A : Type 0} (test : Seen → Bool) (b : Bool) (p q : Parser A) (L M : Rule A) (s : Stream) (taken : List Placed) (left : Stream) (f : Fault) → heads test s ≡ b → ((r : Stream) → heads test r ≡ b → q r ≡ p r) → ((ts : List Token) → Begins L ts → Begins M ts) → s ≡ onto taken left
    → Stuck p L taken left f → Stuck q M taken left f
stuck_by test b p q L M s taken (ends r) f e same wider split h = h
stuck_by test b p q L M s taken (stops r) f e same wider split h = h
stuck_by test b p q L M s taken (t then left) f e same wider split (inl h) = inl (h.0, λ rest. same (onto taken (t then rest)) (still test b s taken (t then left) (t then rest) e split refl) ∙ h.1 rest)
stuck_by test b p q L M s taken (t then left) f e same wider split (inr h) = inr (h.0, h.1, wider (plain taken ++ t.token ∷ []) h.2)

begins_either_first : {A : Type 0} (L M : Rule A) (ts : List Token) → Begins L ts → Begins (either L M) ts
unfolding either
begins_either_first L M ts b = (b.0, b.1, inl b.2)

begins_either_second : {A : Type 0} (L M : Rule A) (ts : List Token) → Begins M ts → Begins (either L M) ts
unfolding either
begins_either_second L M ts b = (b.0, b.1, inr b.2)

choose_finds : (n : ℕ) {A : Type 0} (test : Seen → Bool) (p q : Parser A) (L M : Rule A) (c d : Seen → Bool) (s : Stream) (a : A) (left : Stream) → Reads n p L c → Reads n q M d → size s ≤ n → choose test p q s ≡ Ok (a, left)
    → (heads test s ≡ true) ⊎ (heads test s ≡ false) → Found (choose test p q) (either L M) s a left
unfolding either
choose_finds n test p q L M c d s a left r t le h (inl e) =
    let f = r.finds s a left le (sym (choose_first test p q s e) ∙ h) in
    record { taken = f.taken; split = f.split; said = inl f.said; fit = f.fit; firm = λ rest k. choose_first test p q (onto f.taken rest) (still test true s f.taken left rest e f.split k) ∙ f.firm rest k }
choose_finds n test p q L M c d s a left r t le h (inr e) =
    let f = t.finds s a left le (sym (choose_second test p q s e) ∙ h) in
    record { taken = f.taken; split = f.split; said = inr f.said; fit = f.fit; firm = λ rest k. choose_second test p q (onto f.taken rest) (still test false s f.taken left rest e f.split k) ∙ f.firm rest k }

choose_fails : (n : ℕ) {A : Type 0} (test : Seen → Bool) (p q : Parser A) (L M : Rule A) (c d : Seen → Bool) (s : Stream) (f : Fault) → Reads n p L c → Reads n q M d → size s ≤ n → choose test p q s ≡ Err f
    → (heads test s ≡ true) ⊎ (heads test s ≡ false) → Failed (choose test p q) (either L M) s f
choose_fails n test p q L M c d s f r t le h (inl e) =
    let g = r.fails s f le (sym (choose_first test p q s e) ∙ h) in
    record {
      taken = g.taken;
      left = g.left;
      split = g.split;
      begins = begins_either_first L M (plain g.taken) g.begins;
      fit = g.fit;
      stuck = stuck_by test true p (choose test p q) L (either L M) s g.taken g.left f e (choose_first test p q) (begins_either_first L M) g.split g.stuck;
    }
choose_fails n test p q L M c d s f r t le h (inr e) =
    let g = t.fails s f le (sym (choose_second test p q s e) ∙ h) in
    record {
      taken = g.taken;
      left = g.left;
      split = g.split;
      begins = begins_either_second L M (plain g.taken) g.begins;
      fit = g.fit;
      stuck = stuck_by test false q (choose test p q) M (either L M) s g.taken g.left f e (choose_second test p q) (begins_either_second L M) g.split g.stuck;
    }

choose_agrees : (n : ℕ) {A : Type 0} (test : Seen → Bool) (p q : Parser A) (L M : Rule A) (c d : Seen → Bool) (ts : List Placed) (a : A) (left : Stream) → Reads n p L c → Reads n q M d → Leads test L → (M (plain ts) a → heads test (onto ts left) ≡ false) → length ts ≤ n
    → either L M (plain ts) a → heads c left ≡ false → heads d left ≡ false → Agrees ts a left (choose test p q (onto ts left))
unfolding either
choose_agrees n test p q L M c d ts a left r t leads apart le (inl l) f g =
    subst (λ x. Agrees ts a left x) (sym (choose_first test p q (onto ts left) (leads ts a left l))) (r.agrees ts a left le l f)
choose_agrees n test p q L M c d ts a left r t leads apart le (inr m) f g =
    subst (λ x. Agrees ts a left x) (sym (choose_second test p q (onto ts left) (apart m))) (t.agrees ts a left le m g)

pub reads_choose_on : (n : ℕ) {A : Type 0} (test on : Seen → Bool) {p q : Parser A} {L M : Rule A} {c d : Seen → Bool} → Reads n p L c → Reads n q M d → Leads test L → Avoids test M on
    → ((s : Stream) → heads on s ≡ false → heads c s ≡ false) → ((s : Stream) → heads on s ≡ false → heads d s ≡ false) → Reads n (choose test p q) (either L M) on
reads_choose_on n test on {p = p} {q = q} {L = L} {M = M} {c = c} {d = d} r t leads apart first second = record {
  starts = begins_either_first L M [] r.starts;
  finds = λ s a left le h. choose_finds n test p q L M c d s a left r t le h (cases_Bool (heads test s));
  fails = λ s f le h. choose_fails n test p q L M c d s f r t le h (cases_Bool (heads test s));
  agrees = λ ts a left le m free. choose_agrees n test p q L M c d ts a left r t leads (λ k. apart ts a left k free) le m (first left free) (second left free);
}

pub reads_choose : (n : ℕ) {A : Type 0} (test : Seen → Bool) {p q : Parser A} {L M : Rule A} {c d : Seen → Bool} → Reads n p L c → Reads n q M d → Leads test L → Avoids test M (any test (any c d)) → Reads n (choose test p q) (either L M) (any test (any c d))
reads_choose n test {c = c} {d = d} r t leads apart =
    reads_choose_on n test (any test (any c d)) r t leads apart (λ s e. (heads-any c d s (heads-any test (any c d) s e).1).0) (λ s e. (heads-any c d s (heads-any test (any c d) s e).1).1)

-- ---- past a token if it comes next, or another reading

takes_cond : {A : Type 0} (b : Bool) (p : Parser A) (r : Stream) (f : Fault) (z : Result (A × Stream) Fault) → cond b (p r) z ≡ cond b (go_on (cond b (ok_unit r) (Err f)) (λ _. p)) z
takes_cond true p r f z = refl
takes_cond false p r f z = refl

takes_is_choose : {A : Type 0} (test : Seen → Bool) (p q : Parser A) (s : Stream) → takes test p q s ≡ choose test (past test p) q s
unfolding takes choose bind token_parser
takes_is_choose test p q s = takes_cond (heads test s) p (tail s) (fault_here s) (q s)

pub leads_behind : {A : Type 0} (test : Seen → Bool) (L : Rule A) → Leads test (behind test L)
unfolding sequence rule.token_rule
leads_behind test L ts a left (us, vs, u, e, (t, e2, k), l) = leads_at test t vs left ts (e ∙ ap (λ x. x ++ vs) e2) k
  where
    leads_at : (test : Seen → Bool) (t : Token) (vs : List Token) (left : Stream) (ts : List Placed) → plain ts ≡ t ∷ vs → test (seen_token t) ≡ true → heads test (onto ts left) ≡ true
    leads_at test t vs left [] e k = absurd cc
    leads_at test t vs left (x ∷ xs) e k = let h : x.token ≡ t = cc in ap (λ y. test (seen_token y)) h ∙ k

pub reads_takes : (n : ℕ) {A : Type 0} (test : Seen → Bool) (t : Token) (p : Parser A) (L : Rule A) (c : Seen → Bool) {q : Parser A} {M : Rule A} {d : Seen → Bool} → test (scan.number None) ≡ false → test (seen_token t) ≡ true → Inner n p L c → Begins L [] → Reads n q M d → Avoids test M (any test (any c d))
    → Reads n (takes test p q) (either (behind test L) M) (any test (any c d))
reads_takes n test t p L c {q = q} {M = M} {d = d} rejects e r b o apart =
    reads_alike n (choose test (past test p) q) (takes test p q) (either (behind test L) M) (either (behind test L) M) (any test (any c d)) (any test (any c d)) (takes_is_choose test p q) (alike-refl (either (behind test L) M)) (λ s h. h)
    (reads_choose n test (reads_past n test t p L c rejects e r b) o (leads_behind test L) apart)

pub takes_keyword : (n : ℕ) {A : Type 0} (k : Keyword) {p q : Parser A} {L M : Rule A} {c d : Seen → Bool} → ((m : ℕ) → Reads m p L c) → Reads n q M d → Avoids (is_keyword k) M (any (is_keyword k) (any c d))
    → Reads n (takes (is_keyword k) p q) (either (behind (is_keyword k) L) M) (any (is_keyword k) (any c d))
takes_keyword n k {p = p} {L = L} {c = c} r o apart = reads_takes n (is_keyword k) (word (keyword_text k)) p L c refl (same_text (keyword_text k)) (inner_of n r) (r 0).starts o apart

pub takes_mark : (n : ℕ) {A : Type 0} (m : Mark) {p q : Parser A} {L M : Rule A} {c d : Seen → Bool} → ((i : ℕ) → Reads i p L c) → Reads n q M d → Avoids (is_mark m) M (any (is_mark m) (any c d))
    → Reads n (takes (is_mark m) p q) (either (behind (is_mark m) L) M) (any (is_mark m) (any c d))
takes_mark n m {p = p} {L = L} {c = c} r o apart = reads_takes n (is_mark m) (mark m) p L c refl (same_mark m) (inner_of n r) (r 0).starts o apart

pub takes_word : (n : ℕ) {A : Type 0} (text : List ℕ) {p q : Parser A} {L M : Rule A} {c d : Seen → Bool} → ((m : ℕ) → Reads m p L c) → Reads n q M d → Avoids (is_spelled text) M (any (is_spelled text) (any c d))
    → Reads n (takes (is_spelled text) p q) (either (behind (is_spelled text) L) M) (any (is_spelled text) (any c d))
takes_word n text {p = p} {L = L} {c = c} r o apart = reads_takes n (is_spelled text) (word text) p L c refl (same_text text) (inner_of n r) (r 0).starts o apart

-- ---- rules that begin with other tokens

pub avoids_means : {A : Type 0} (test : Seen → Bool) (a : A) (on : Seen → Bool) → Avoids test (means a) (any test on)
unfolding means
avoids_means test a on ts b left (e, k) free = subst (λ us. heads test (onto us left) ≡ false) (sym (nothing_placed ts e)) (heads-any test on left free).0

avoids_token : (test : Seen → Bool) (ts : List Placed) (t : Token) (left : Stream) → plain ts ≡ t ∷ [] → test (seen_token t) ≡ false → heads test (onto ts left) ≡ false
avoids_token test ts t left e k =
    let x = single ts t e in
    subst (λ us. heads test (onto us left) ≡ false) (sym x.only) (ap (λ u. test (seen_token u)) x.is ∙ k)

pub avoids_wanted : (test w : Seen → Bool) (on : Seen → Bool) → ((t : Seen) → w t ≡ true → test t ≡ false) → Avoids test (rule.token_rule w) on
unfolding rule.token_rule
avoids_wanted test w on h ts u left (t, e, k) free = avoids_token test ts t left e (h (seen_token t) k)

pub keyword_only : (test : Seen → Bool) (k : Keyword) → test (scan.word (keyword_text k)) ≡ false → (t : Seen) → is_keyword k t ≡ true → test t ≡ false
keyword_only test k h (scan.word w) e = subst (λ v. test (scan.word v) ≡ false) (sym ((bytes_eq-Decides w (keyword_text k)).0 e)) h
keyword_only test k h (scan.number z) e = absurd cc
keyword_only test k h (scan.quoted w) e = absurd cc
keyword_only test k h (scan.mark m) e = absurd cc

pub avoids_keyword : (test : Seen → Bool) (k : Keyword) (on : Seen → Bool) → test (scan.word (keyword_text k)) ≡ false → Avoids test (rule.keyword k) on
avoids_keyword test k on h = avoids_wanted test (is_keyword k) on (keyword_only test k h)

spelled_only : (test : Seen → Bool) (text : List ℕ) → test (scan.word text) ≡ false → (t : Seen) → is_spelled text t ≡ true → test t ≡ false
spelled_only test text h (scan.word w) e = subst (λ v. test (scan.word v) ≡ false) (sym ((bytes_eq-Decides w text).0 e)) h
spelled_only test text h (scan.number z) e = absurd cc
spelled_only test text h (scan.quoted w) e = absurd cc
spelled_only test text h (scan.mark m) e = absurd cc

pub avoids_spelled : (test : Seen → Bool) (text : List ℕ) (on : Seen → Bool) → test (scan.word text) ≡ false → Avoids test (rule.token_rule (is_spelled text)) on
avoids_spelled test text on h = avoids_wanted test (is_spelled text) on (spelled_only test text h)

-- the mark of a number
abbrev mark_of : ℕ → Mark
mark_of n =
    cond (eqb n 0) marks.Open (cond (eqb n 1) marks.Close (cond (eqb n 2) marks.Comma (cond (eqb n 3) marks.Semicolon (cond (eqb n 4) marks.Point (cond (eqb n 5) marks.Star (cond (eqb n 6) marks.Equal
    (cond (eqb n 7) marks.Less (cond (eqb n 8) marks.Greater (cond (eqb n 9) marks.AtMost (cond (eqb n 10) marks.AtLeast (cond (eqb n 11) marks.Differs (cond (eqb n 12) marks.Unequal marks.Arrow))))))))))))

mark_of_number : (m : Mark) → mark_of (mark_number m) ≡ m
mark_of_number marks.Open = refl
mark_of_number marks.Close = refl
mark_of_number marks.Comma = refl
mark_of_number marks.Semicolon = refl
mark_of_number marks.Point = refl
mark_of_number marks.Star = refl
mark_of_number marks.Equal = refl
mark_of_number marks.Less = refl
mark_of_number marks.Greater = refl
mark_of_number marks.AtMost = refl
mark_of_number marks.AtLeast = refl
mark_of_number marks.Differs = refl
mark_of_number marks.Unequal = refl
mark_of_number marks.Arrow = refl

pub mark_only : (test : Seen → Bool) (m : Mark) → test (scan.mark m) ≡ false → (t : Seen) → is_mark m t ≡ true → test t ≡ false
mark_only test m h (scan.word w) e = absurd cc
mark_only test m h (scan.number z) e = absurd cc
mark_only test m h (scan.quoted w) e = absurd cc
mark_only test m h (scan.mark n) e =
    let k : n ≡ m = sym (mark_of_number n) ∙ ap mark_of (eqb-true (mark_number n) (mark_number m) e) ∙ mark_of_number m in
    subst (λ x. test (scan.mark x) ≡ false) (sym k) h

pub avoids_mark : (test : Seen → Bool) (m : Mark) (on : Seen → Bool) → test (scan.mark m) ≡ false → Avoids test (rule.mark m) on
avoids_mark test m on h = avoids_wanted test (is_mark m) on (mark_only test m h)

pub avoids_one : {A : Type 0} (test : Seen → Bool) (f : Seen → Option A) (on : Seen → Bool) → ((t : Seen) (a : A) → f t ≡ Some a → test t ≡ false) → Avoids test (rule.one f) on
unfolding rule.one
avoids_one test f on h ts a left (t, e, k) free = avoids_token test ts t left e (h (seen_token t) a k)

pub avoids_number : (test : Seen → Bool) (on : Seen → Bool) → ((o : Option ℤ) → test (scan.number o) ≡ false) → Avoids test rule.number on
unfolding rule.number
avoids_number test on h ts z left e free = avoids_token test ts (number z) left e (h (i64_of z))

pub avoids_sequence : {A B : Type 0} (test : Seen → Bool) (L : Rule A) (M : A → Rule B) (on : Seen → Bool) → Avoids test L none → Avoids test (sequence L M) on
unfolding sequence
avoids_sequence test L M on h ts b left (us, vs, a, e, l, m) free =
    let x = splits ts us vs e in
    let k = h x.front a (onto x.back left) (subst (λ y. L y a) (sym x.front-is) l) (heads-none (onto x.back left)) in
    subst (λ y. heads test (onto y left) ≡ false) (sym x.both) (ap (heads test) (onto-append x.front x.back left) ∙ k)

pub avoids_either : {A : Type 0} (test : Seen → Bool) (L M : Rule A) (on : Seen → Bool) → Avoids test L on → Avoids test M on → Avoids test (either L M) on
unfolding either
avoids_either test L M on f g ts a left (inl l) free = f ts a left l free
avoids_either test L M on f g ts a left (inr m) free = g ts a left m free
