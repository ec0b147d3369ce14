-- The keys and aggregates of a SELECT list: a word is a key unless an opening parenthesis follows it.
use Rattle.std.proofs.Common.{◌≡◌, ℕ, zero, suc, Bool, true, false, cond, List, [], ◌∷◌, ◌++◌, Option, Some, None, Result, Ok, Err, refl, sym, ap, subst, ◌∙◌, append_assoc, inl, inr}
use Rattle.std.specs.Prelude.{◌⊎◌, codes}
use Rattle.std.proofs.lemmas.Bool.{cases_Bool}
use Rattle.std.proofs.lemmas.List.{append-nil}
use Rattle.ts_num.specs.declared.values.Fun.{Fun}
use Rattle.ts_num.specs.declared.values.Fun.TheVariants as fun
use Rattle.stmt_tokens.specs.Tokens.{Token, word, number, quoted, mark}
use Rattle.stmt_tokens.specs.Scan as scan
use Rattle.stmt_tokens.specs.Scan.{Seen, seen_token}
use Rattle.stmt_tokens.specs.Words.{is_mark, word_of, function_of, function_of_word}
use Rattle.stmt_tokens.specs.Streams.{Stream, ends, stops, ◌then◌, plain, heads}
use Rattle.stmt_reader.specs.Reading.{fault_here, Parser, gives, go_on, bind, token_parser, choose, function_head, keys_and_function}
use Rattle.stmt_reader.specs.Reading as read
use Rattle.stmt_reader.specs.Grammar as rule
use Rattle.stmt_reader.specs.Grammar.{Rule, means, sequence, either, many}
use Rattle.stmt_reader.specs.Refusals.{Begins}
use Rattle.stmt_reader.specs.declared.faults.Fault.{Fault}
use Rattle.stmt_tokens.specs.declared.tokens.Mark.TheVariants as marks
use Rattle.stmt_syntax.specs.declared.statements.NamedAgg.{NamedAgg}
use Rattle.stmt_reader.proofs.Loops.{keys_body, keys_go, after_word}
use Rattle.stmt_reader.proofs.Rules.{Reads, none, Avoids, Alike, alike-refl, reads_alike, reads_gives, reads_then}
use Rattle.stmt_reader.proofs.RuleTokens.{Inner, behind, reads_mark, reads_choose_on, reads_past, leads_behind, mark_only, avoids_mark, avoids_sequence}
use Rattle.stmt_reader.proofs.PartRules.{reads_name, reads_last, reads_aggregates, aggregates_of, on_aggregates}

-- ---- the rule of the keys and the first function

-- , fun (
abbrev function_rule : Rule Fun
function_rule = behind (is_mark marks.Comma) (sequence (rule.one function_of) (λ f. behind (is_mark marks.Open) (means f)))

abbrev key_rule : Rule (List ℕ)
key_rule = behind (is_mark marks.Comma) rule.name

abbrev keyed : List (List ℕ) → Fun → List (List ℕ) × Fun
keyed front f = (front, f)

-- these keys and some more, and then a function
abbrev pub keys_rule : List (List ℕ) → Rule (List (List ℕ) × Fun)
keys_rule front ts x = (us : List Token) × (vs : List Token) × (new : List (List ℕ)) × (ts ≡ us ++ vs) × (x.0 ≡ front ++ new) × many key_rule us new × function_rule vs x.1

-- after the word that follows a comma, by the function that it names
abbrev word_rule : List (List ℕ) → List ℕ → Option Fun → Rule (List (List ℕ) × Fun)
word_rule front w None = keys_rule (front ++ w ∷ [])
word_rule front w (Some f) = either (behind (is_mark marks.Open) (means (keyed front f))) (keys_rule (front ++ w ∷ []))

abbrev step_rule : List (List ℕ) → Rule (List (List ℕ) × Fun)
step_rule front = behind (is_mark marks.Comma) (sequence rule.name (λ w. word_rule front w (function_of_word w)))

-- ---- one step is the whole

-- a word that names a function
word_function : (t : Token) (w : List ℕ) (f : Fun) → word_of (seen_token t) ≡ Some w → function_of_word w ≡ Some f → function_of (seen_token t) ≡ Some f
word_function (word v) w f e k = let h : v ≡ w = cc in ap function_of_word h ∙ k
word_function (number z) w f e k = absurd cc
word_function (quoted v) w f e k = absurd cc
word_function (mark m) w f e k = absurd cc

word_from : (t : Token) (f : Fun) → function_of (seen_token t) ≡ Some f → (w : List ℕ) × (word_of (seen_token t) ≡ Some w) × (function_of_word w ≡ Some f)
word_from (word v) f e = (v, refl, e)
word_from (number z) f e = absurd cc
word_from (quoted v) f e = absurd cc
word_from (mark m) f e = absurd cc

open_is : (g f : Fun) (xs : List Token) → behind (is_mark marks.Open) (means g) xs f → g ≡ f
unfolding sequence means
open_is g f xs (us, vs, u, e, m, (v, k)) = k

open_same : (g f : Fun) (xs : List Token) → g ≡ f → behind (is_mark marks.Open) (means g) xs f → behind (is_mark marks.Open) (means f) xs f
open_same g f xs h m = subst (λ y. behind (is_mark marks.Open) (means y) xs f) h m

-- the keys of a longer front
longer : (front : List (List ℕ)) (w : List ℕ) (us vs xs : List Token) (u : Unit {0}) (ts : List Token) (x : List (List ℕ) × Fun) → rule.mark marks.Comma us u → rule.name vs w → ts ≡ us ++ (vs ++ xs) → keys_rule (front ++ w ∷ []) xs x → keys_rule front ts x
unfolding sequence many
longer front w us vs xs u ts x comma n e (ys, zs, new, e2, k, m, f) =
    ((us ++ vs) ++ ys, zs, w ∷ new, e ∙ ap (λ y. us ++ (vs ++ y)) e2 ∙ simp append_assoc, k ∙ append_assoc front (w ∷ []) new, (us ++ vs, ys, refl, (us, vs, u, refl, comma, n), m), f)

function_here : (w : List ℕ) (f : Fun) (us vs xs : List Token) (u : Unit {0}) → rule.mark marks.Comma us u → rule.name vs w → function_of_word w ≡ Some f → behind (is_mark marks.Open) (means f) xs f → function_rule (us ++ (vs ++ xs)) f
unfolding sequence rule.one
function_here w f us vs xs u comma (t, e, k) fun paren = (us, vs ++ xs, u, refl, comma, (vs, xs, f, refl, (t, e, word_function t w f k fun), paren))

open_function : (front : List (List ℕ)) (f : Fun) (xs : List Token) (x : List (List ℕ) × Fun) → behind (is_mark marks.Open) (means (keyed front f)) xs x → behind (is_mark marks.Open) (means f) xs f × ((keyed front f) ≡ x)
unfolding sequence means
open_function front f xs x (us, vs, u, e, m, (v, k)) = ((us, vs, u, e, m, (v, refl)), k)

step_to_at : (front : List (List ℕ)) (w : List ℕ) (o : Option Fun) (us vs xs : List Token) (u : Unit {0}) (ts : List Token) (x : List (List ℕ) × Fun) → function_of_word w ≡ o → rule.mark marks.Comma us u → rule.name vs w → ts ≡ us ++ (vs ++ xs) → word_rule front w o xs x → keys_rule front ts x
unfolding either many
step_to_at front w None us vs xs u ts x o-is comma n e m = longer front w us vs xs u ts x comma n e m
step_to_at front w (Some f) us vs xs u ts x o-is comma n e (inr m) = longer front w us vs xs u ts x comma n e m
step_to_at front w (Some f) us vs xs u ts x o-is comma n e (inl m) =
    let k = open_function front f xs x m in
    subst (λ y. keys_rule front ts y) k.1 ([], ts, [], refl, sym (append-nil front), refl, subst (λ y. function_rule y f) (sym e) (function_here w f us vs xs u comma n o-is k.0))

step_to : (front : List (List ℕ)) (ts : List Token) (x : List (List ℕ) × Fun) → step_rule front ts x → keys_rule front ts x
unfolding sequence
step_to front ts x (us, vs, u, e, comma, (ys, zs, w, e2, n, m)) = step_to_at front w (function_of_word w) us ys zs u ts x refl comma n (e ∙ ap (λ y. us ++ y) e2) m

step_back_none : (front : List (List ℕ)) (w : List ℕ) (o : Option Fun) (xs : List Token) (x : List (List ℕ) × Fun) → keys_rule (front ++ w ∷ []) xs x → word_rule front w o xs x
unfolding either
step_back_none front w None xs x m = m
step_back_none front w (Some f) xs x m = inr m

step_back_function : (front : List (List ℕ)) (w : List ℕ) (o : Option Fun) (f : Fun) (xs : List Token) → o ≡ Some f → behind (is_mark marks.Open) (means f) xs f → word_rule front w o xs (keyed front f)
unfolding either sequence means
step_back_function front w None f xs e m = absurd cc
step_back_function front w (Some g) f xs e (us, vs, u, e2, m, (v, k)) =
    let h : g ≡ f = cc in
    inl (us, vs, u, e2, m, (v, ap (keyed front) h))

step_back_at : (front : List (List ℕ)) (new : List (List ℕ)) (f : Fun) (us vs ts : List Token) → ts ≡ us ++ vs → many key_rule us new → function_rule vs f → step_rule front ts (front ++ new, f)
unfolding sequence many rule.one
step_back_at front [] f us vs ts e m (ns, bs, u, e2, comma, (cs, ds, g, e3, (t, e4, k), paren)) =
    let h : g ≡ f = open_is g f ds paren in
    let w = word_from t g k in
    let here : ts ≡ ns ++ (cs ++ ds) = e ∙ ap (λ y. y ++ vs) m ∙ e2 ∙ ap (λ y. ns ++ y) e3 in
    subst (λ y. step_rule front ts (y, f)) (sym (append-nil front))
    (ns, cs ++ ds, u, here, comma, (cs, ds, w.0, refl, (t, e4, w.1), step_back_function front w.0 (function_of_word w.0) f ds (w.2 ∙ ap Some h) (open_same g f ds h paren)))
step_back_at front (w ∷ new) f us vs ts e (ns, bs, e2, (cs, ds, u, e3, comma, n), m) fn =
    let here : ts ≡ cs ++ (ds ++ (bs ++ vs)) = e ∙ ap (λ y. y ++ vs) (e2 ∙ ap (λ y. y ++ bs) e3) ∙ simp append_assoc in
    let rest : keys_rule (front ++ w ∷ []) (bs ++ vs) ((front ++ w ∷ []) ++ new, f) = (bs, vs, new, refl, refl, m, fn) in
    let k : (front ++ w ∷ []) ++ new ≡ front ++ (w ∷ new) = append_assoc front (w ∷ []) new in
    (cs, ds ++ (bs ++ vs), u, here, comma, (ds, bs ++ vs, w, refl, n, step_back_none front w (function_of_word w) (bs ++ vs) (front ++ (w ∷ new), f) (subst (λ y. keys_rule (front ++ w ∷ []) (bs ++ vs) (y, f)) k rest)))

step_back : (front : List (List ℕ)) (ts : List Token) (x : List (List ℕ) × Fun) → keys_rule front ts x → step_rule front ts x
step_back front ts x (us, vs, new, e, k, m, f) = subst (λ y. step_rule front ts (y, x.1)) (sym k) (step_back_at front new x.1 us vs ts e m f)

step_alike : (front : List (List ℕ)) → Alike (step_rule front) (keys_rule front)
step_alike front = record { to = step_to front; back = step_back front }

-- ---- reading the keys

begins_function : Begins function_rule []
unfolding sequence means rule.one rule.token_rule
begins_function = (
  mark marks.Comma ∷ word (codes "sum") ∷ mark marks.Open ∷ [],
  fun.Sum,
  (
    mark marks.Comma ∷ [],
    word (codes "sum") ∷ mark marks.Open ∷ [],
    tt,
    refl,
    (mark marks.Comma, refl, refl),
    (word (codes "sum") ∷ [], mark marks.Open ∷ [], fun.Sum, refl, (word (codes "sum"), refl, refl), (mark marks.Open ∷ [], [], tt, refl, (mark marks.Open, refl, refl), (refl, refl))),
  ),
)

begins_keys : (front : List (List ℕ)) → Begins (keys_rule front) []
unfolding many
begins_keys front = (begins_function.0, (front ++ [], begins_function.1), ([], begins_function.0, [], refl, refl, refl, begins_function.2))

avoids_keys : (test on : Seen → Bool) (front : List (List ℕ)) → test (scan.mark marks.Comma) ≡ false → Avoids test (keys_rule front) on
avoids_keys test on front h ts x left m free =
    avoids_sequence test (rule.mark marks.Comma) (λ _. sequence rule.name (λ w. word_rule front w (function_of_word w))) on (avoids_mark test marks.Comma none h) ts x left (step_back front (plain ts) x m) free

twice : (r : Result (Unit {0} × Stream) Fault) (front : List (List ℕ)) (f : Fun) → go_on (go_on r (λ _. gives f)) (λ g. gives (keyed front g)) ≡ go_on r (λ _. gives (keyed front f))
twice (Ok x) front f = refl
twice (Err g) front f = refl

word_with_function : (front : List (List ℕ)) (w : List ℕ) (f : Fun) (s : Stream) → function_of_word w ≡ Some f → after_word front w s ≡ choose (is_mark marks.Open) (bind (token_parser (is_mark marks.Open)) (λ _. gives (keyed front f))) (keys_and_function (front ++ w ∷ [])) s
unfolding choose bind
word_with_function front w f s e = rw e (ap (λ r. cond (heads (is_mark marks.Open) s) r (keys_and_function (front ++ w ∷ []) s)) (twice (token_parser (is_mark marks.Open) s) front f))

no_comma : (s : Stream) → heads (is_mark marks.Open) s ≡ true → heads (is_mark marks.Comma) s ≡ false
no_comma (ends q) e = refl
no_comma (stops q) e = refl
no_comma (t then s) e = mark_only (is_mark marks.Comma) marks.Open refl (seen_token t.token) e

keys_refused : (front : List (List ℕ)) (s : Stream) → heads (is_mark marks.Comma) s ≡ false → keys_and_function front s ≡ Err (fault_here s)
unfolding bind token_parser
keys_refused front s e = keys_go front s ∙ rw e refl

word_without_function : (front : List (List ℕ)) (w : List ℕ) (s : Stream) → function_of_word w ≡ None → (heads (is_mark marks.Open) s ≡ true) ⊎ (heads (is_mark marks.Open) s ≡ false) → after_word front w s ≡ keys_and_function (front ++ w ∷ []) s
unfolding choose bind
word_without_function front w s e (inl h) = rw (h, e) (sym (keys_refused (front ++ w ∷ []) s (no_comma s h)))
word_without_function front w s e (inr h) = rw h refl

reads_word : (n : ℕ) (front : List (List ℕ)) (w : List ℕ) (o : Option Fun) → function_of_word w ≡ o → Reads n (keys_and_function (front ++ w ∷ [])) (keys_rule (front ++ w ∷ [])) none → Reads n (after_word front w) (word_rule front w o) none
reads_word n front w None e r =
    reads_alike n (keys_and_function (front ++ w ∷ [])) (after_word front w) (keys_rule (front ++ w ∷ [])) (keys_rule (front ++ w ∷ [])) none none
    (λ s. word_without_function front w s e (cases_Bool (heads (is_mark marks.Open) s))) (alike-refl (keys_rule (front ++ w ∷ []))) (λ s h. h) r
reads_word n front w (Some f) e r =
    reads_alike n (choose (is_mark marks.Open) (bind (token_parser (is_mark marks.Open)) (λ _. gives (keyed front f))) (keys_and_function (front ++ w ∷ []))) (after_word front w)
    (either (behind (is_mark marks.Open) (means (keyed front f))) (keys_rule (front ++ w ∷ []))) (either (behind (is_mark marks.Open) (means (keyed front f))) (keys_rule (front ++ w ∷ []))) none none
    (λ s. word_with_function front w f s e) (alike-refl _) (λ s h. h)
    (reads_choose_on n (is_mark marks.Open) none (reads_then n (reads_mark n marks.Open) (λ _. reads_gives n (keyed front f))) r (leads_behind (is_mark marks.Open) (means (keyed front f)))
    (avoids_keys (is_mark marks.Open) none (front ++ w ∷ []) refl) (λ s h. h) (λ s h. h))

begins_word : (front : List (List ℕ)) → Begins (sequence rule.name (λ w. word_rule front w (function_of_word w))) []
unfolding sequence rule.one
begins_word front =
    let b = begins_keys (front ++ codes "x" ∷ []) in
    (word (codes "x") ∷ b.0, b.1, (word (codes "x") ∷ [], b.0, codes "x", refl, (word (codes "x"), refl, refl), b.2))

keys_inner : (n : ℕ) (front : List (List ℕ)) → Inner n (bind read.name (λ w. after_word front w)) (sequence rule.name (λ w. word_rule front w (function_of_word w))) none → Reads n (keys_and_function front) (keys_rule front) none
keys_inner n front inner =
    reads_alike n (keys_body keys_and_function front) (keys_and_function front) (step_rule front) (keys_rule front) none none (keys_go front) (step_alike front) (λ s h. h)
    (reads_past n (is_mark marks.Comma) (mark marks.Comma) (bind read.name (λ w. after_word front w)) (sequence rule.name (λ w. word_rule front w (function_of_word w))) none refl refl inner (begins_word front))

pub reads_keys : (n : ℕ) (front : List (List ℕ)) → Reads n (keys_and_function front) (keys_rule front) none
reads_keys zero front = keys_inner zero front tt
reads_keys (suc m) front = keys_inner (suc m) front (reads_then m (reads_name m) (λ w. reads_word m front w (function_of_word w) refl (reads_keys m (front ++ w ∷ []))))

-- ---- the whole list

abbrev read_list : Rule (List (List ℕ) × List NamedAgg)
read_list = sequence (keys_rule []) (λ k. sequence (aggregates_of k.1) (λ aggs. means (k.0, aggs)))

list_to : (ts : List Token) (x : List (List ℕ) × List NamedAgg) → read_list ts x → rule.select_list ts x
unfolding sequence means
list_to ts x (us, vs, k, e, (xs, cs, new, e1, k1, m, (c1, c2, u, e2, comma, (c3, c4, g, e3, fn, (c5, c6, u2, e4, paren, (e5, gk))))), (vs1, vs2, aggs, e6, (ns, bs, a, e7, ar, rest), (e8, xk))) = (
  xs,
  c1 ++ ((c3 ++ (c5 ++ ns)) ++ bs),
  new,
  rw (e, e1, e2, e3, e4, e5, e6, e7, e8) (simp (append_assoc, append-nil)),
  m,
  (
    c1,
    (c3 ++ (c5 ++ ns)) ++ bs,
    u,
    refl,
    comma,
    (
      (c3 ++ (c5 ++ ns)) ++ bs,
      [],
      aggs,
      sym (append-nil ((c3 ++ (c5 ++ ns)) ++ bs)),
      (c3 ++ (c5 ++ ns), bs, a, refl, (c3, c5 ++ ns, g, refl, fn, (c5, ns, u2, refl, paren, subst (λ f. rule.aggregate_rest f ns a) (sym gk) ar)), rest),
      (refl, ap (λ y. (y, aggs)) (sym k1) ∙ xk),
    ),
  ),
)

list_back : (ts : List Token) (x : List (List ℕ) × List NamedAgg) → rule.select_list ts x → read_list ts x
unfolding sequence means
list_back ts x (xs, r1, keys, e1, m, (c1, r2, u, e2, comma, (r3, r4, aggs, e3, (ag, bs, a, e4, (c3, r5, f, e5, fn, (c5, ns, u2, e6, paren, ar)), rest), (e7, xk)))) = (
  xs ++ (c1 ++ (c3 ++ c5)),
  ns ++ bs,
  (keys, f),
  rw (e1, e2, e3, e4, e5, e6, e7) (simp (append_assoc, append-nil)),
  (xs, c1 ++ (c3 ++ c5), keys, refl, refl, m, (c1, c3 ++ c5, u, refl, comma, (c3, c5, f, refl, fn, (c5, [], u2, sym (append-nil c5), paren, (refl, refl))))),
  (ns ++ bs, [], aggs, sym (append-nil (ns ++ bs)), (ns, bs, a, refl, ar, rest), (refl, xk)),
)

pub reads_select_list : (n : ℕ) → Reads n read.select_list rule.select_list on_aggregates
unfolding read.select_list
reads_select_list n =
    reads_alike n (bind (keys_and_function []) (λ k. bind (read.aggregates k.1) (λ aggs. gives (k.0, aggs)))) (bind (keys_and_function []) (λ k. bind (read.aggregates k.1) (λ aggs. gives (k.0, aggs)))) read_list rule.select_list on_aggregates on_aggregates
    (λ s. refl) (record { to = list_to; back = list_back }) (λ s h. h)
    (reads_then n (reads_keys n []) (λ k. reads_last n (λ aggs. (k.0, aggs)) (reads_aggregates n k.1)))

pub avoids_select_list : (test on : Seen → Bool) → test (scan.mark marks.Comma) ≡ false → Avoids test rule.select_list on
avoids_select_list test on h ts x left m free =
    avoids_sequence test (keys_rule []) (λ k. sequence (aggregates_of k.1) (λ aggs. means (k.0, aggs))) on (avoids_keys test none [] h) ts x left (list_back (plain ts) x m) free
