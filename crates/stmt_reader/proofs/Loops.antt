-- Lists, as the loops of the code read them.
use Rattle.std.proofs.Common.{◌≡◌, ℕ, zero, suc, ◌<◌, ◌≤◌, Bool, true, false, cond, List, [], ◌∷◌, ◌++◌, Result, Ok, Err, refl, sym, ap, subst, ◌∙◌, arith}
use Rattle.std.proofs.Common.{get_or, drop, length, drop-cons}
use Rattle.ts_num.specs.declared.values.Fun.{Fun}
use Rattle.stmt_tokens.specs.Scan.{Seen}
use Rattle.stmt_tokens.specs.Words.{is_mark, function_of_word, is_item}
use Rattle.stmt_tokens.specs.Streams.{Stream, ends, stops, ◌then◌, size, heads, tail}
use Rattle.stmt_reader.specs.Reading.{fault_here, Parser, Fails, gives, go_on, bind, ◌>>=◌, ◌>>◌, takes, choose, token_parser, repeat, more, name, mark, function_head, keys_within, keys_and_function, items_from}
use Rattle.stmt_reader.specs.declared.faults.Fault.{Fault}
use Rattle.stmt_reader.specs.declared.faults.ReadError.{ReadError}
use Rattle.stmt_reader.specs.declared.faults.ReadError.TheVariants as errors
use Rattle.stmt_tokens.specs.declared.tokens.Mark.TheVariants as marks
use Rattle.stmt_reader.specs.Forward.{Forward, forward-name}

abbrev left_of : {A : Type 0} → Stream → Result (A × Stream) Fault → Stream
left_of d (Ok x) = x.1
left_of d (Err f) = d

abbrev pub ok_unit : Stream → Result (Unit {0} × Stream) Fault
ok_unit s = Ok (tt, s)

-- ---- going on

pub go_on_alike : {A B : Type 0} (r : Result (A × Stream) Fault) (q v : A → Parser B) → ((a : A) (s : Stream) → r ≡ Ok (a, s) → q a s ≡ v a s) → go_on r q ≡ go_on r v
go_on_alike (Ok x) q v same = same x.0 x.1 refl
go_on_alike (Err f) q v same = refl

pub go_on_fails : {A B : Type 0} (e : ReadError) (r : Result (A × Stream) Fault) (q : A → Parser B) → Fails e r → Fails e (go_on r q)
go_on_fails errors.Memory r q h = tt
go_on_fails (errors.Fault f) r q h = rw h refl

pub fails_along : {A : Type 0} (e : ReadError) (r t : Result (A × Stream) Fault) → r ≡ t → Fails e r → Fails e t
fails_along e r t same h = subst (λ (x : Result _ Fault). Fails e x) same h

size-tail-lt : (test : Seen → Bool) (s : Stream) → heads test s ≡ true → suc (size (tail s)) ≡ size s
size-tail-lt test (ends p) e = absurd cc
size-tail-lt test (stops p) e = absurd cc
size-tail-lt test (t then s) e = refl

pub past_is_less : (test : Seen → Bool) (s r : Stream) → heads test s ≡ true → r ≡ tail s → size r < size s
past_is_less test s r e r-is = omega (arith, size-tail-lt test s e, ap size r-is)

-- ---- more

-- enough is enough
repeat_enough : {A : Type 0} (n m : ℕ) (test : Seen → Bool) (p : Parser A) (front : List A) (s : Stream) → Forward p → size s ≤ n → size s ≤ m → repeat n test p front s ≡ repeat m test p front s
unfolding takes bind
repeat_enough zero zero test p front s f a b = refl
repeat_enough zero (suc m) test p front (ends q) f a b = refl
repeat_enough zero (suc m) test p front (stops q) f a b = refl
repeat_enough zero (suc m) test p front (t then s) f a b = absurd (omega arith)
repeat_enough (suc n) zero test p front (ends q) f a b = refl
repeat_enough (suc n) zero test p front (stops q) f a b = refl
repeat_enough (suc n) zero test p front (t then s) f a b = absurd (omega arith)
repeat_enough (suc n) (suc m) test p front (ends q) f a b = refl
repeat_enough (suc n) (suc m) test p front (stops q) f a b = refl
repeat_enough (suc n) (suc m) test p front (t then s) f a b =
    ap (λ r. cond (heads test (t then s)) r (Ok (front, t then s)))
    (go_on_alike (p s) (λ x. repeat n test p (front ++ x ∷ [])) (λ x. repeat m test p (front ++ x ∷ []))
    (λ x left e. let k = f.goes s x left e in repeat_enough n m test p (front ++ x ∷ []) left f (omega arith) (omega arith)))

pub more_ends : {A : Type 0} (test : Seen → Bool) (p : Parser A) (front : List A) (s : Stream) → heads test s ≡ false → more test p front s ≡ Ok (front, s)
unfolding more takes
more_ends test p front (ends q) e = refl
more_ends test p front (stops q) e = refl
more_ends test p front (t then s) e = rw e refl

pub more_goes : {A : Type 0} (test : Seen → Bool) (p : Parser A) (front : List A) (s : Stream) → Forward p → heads test s ≡ true → more test p front s ≡ go_on (p (tail s)) (λ a. more test p (front ++ a ∷ []))
unfolding more takes bind
more_goes test p front (ends q) f e = absurd cc
more_goes test p front (stops q) f e = absurd cc
more_goes test p front (t then s) f e =
    rw e (go_on_alike (p s) (λ x. repeat (size s) test p (front ++ x ∷ [])) (λ x r. repeat (size r) test p (front ++ x ∷ []) r)
    (λ x left h. let k = f.goes s x left h in repeat_enough (size s) (size left) test p (front ++ x ∷ []) left f (omega arith) (omega arith)))

-- one turn of the loop
pub more_turn : {A : Type 0} (test : Seen → Bool) (p : Parser A) (front : List A) (s r left : Stream) (a : A) (total : Result (List A × Stream) Fault) → Forward p → heads test s ≡ true → r ≡ tail s → p r ≡ Ok (a, left)
    → more test p front s ≡ total → more test p (front ++ a ∷ []) left ≡ total
more_turn test p front s r left a total f e r-is h so_far =
    let k : p (tail s) ≡ Ok (a, left) = rw (← r-is) h in
    let one : more test p front s ≡ more test p (front ++ a ∷ []) left = more_goes test p front s f e ∙ rw k refl in
    sym one ∙ so_far

pub more_fails : {A : Type 0} (d : ReadError) (test : Seen → Bool) (p : Parser A) (front : List A) (s r : Stream) (total : Result (List A × Stream) Fault) → Forward p → heads test s ≡ true → r ≡ tail s → Fails d (p r)
    → more test p front s ≡ total → Fails d total
more_fails d test p front s r total f e r-is h so_far =
    let k : Fails d (p (tail s)) = subst (λ (x : Stream). Fails d (p x)) r-is h in
    fails_along d (go_on (p (tail s)) (λ a. more test p (front ++ a ∷ []))) total (sym (more_goes test p front s f e) ∙ so_far) (go_on_fails d (p (tail s)) (λ a. more test p (front ++ a ∷ [])) k)

pub more_done : {A : Type 0} (test : Seen → Bool) (p : Parser A) (front : List A) (s r : Stream) (total : Result (List A × Stream) Fault) → heads test s ≡ false → r ≡ s → more test p front s ≡ total → total ≡ Ok (front, r)
more_done test p front s r total e r-is so_far = sym so_far ∙ more_ends test p front s e ∙ ap (λ (x : Stream). Ok (front, x)) (sym r-is)

-- ---- keys

-- one key and what comes after it
abbrev pub keys_body : (List (List ℕ) → Parser (List (List ℕ) × Fun)) → List (List ℕ) → Parser (List (List ℕ) × Fun)
keys_body rest front =
    mark marks.Comma >> (name >>= λ w. choose (is_mark marks.Open) (function_head (function_of_word w) >>= λ f. gives (front, f)) (rest (front ++ w ∷ [])))

cond_ok : (b : Bool) (s : Stream) (f : Fault) (u : Unit {0}) (left : Stream) → cond b (ok_unit (tail s)) (Err f) ≡ Ok (u, left) → (b ≡ true) × (tail s ≡ left)
cond_ok true s f u left e = (refl, ap (left_of s) e)
cond_ok false s f u left e = absurd cc

pub wanted_less : (test : Seen → Bool) (s : Stream) (u : Unit {0}) (left : Stream) → token_parser test s ≡ Ok (u, left) → size left < size s
unfolding token_parser
wanted_less test s u left e =
    let k = cond_ok (heads test s) s (fault_here s) u left e in
    omega (arith, size-tail-lt test s k.0, ap size k.1)

body_alike : (f g : List (List ℕ) → Parser (List (List ℕ) × Fun)) (s : Stream) (front : List (List ℕ)) → ((fr : List (List ℕ)) (r : Stream) → size r < size s → f fr r ≡ g fr r) → keys_body f front s ≡ keys_body g front s
unfolding bind choose
body_alike f g s front same =
    go_on_alike (token_parser (is_mark marks.Comma) s) _ _ (λ u r e. go_on_alike (name r) _ _ (λ w left h.
    let lt = wanted_less (is_mark marks.Comma) s u r e in
    let le = forward-name.goes r w left h in
    ap (cond (heads (is_mark marks.Open) left) _) (same (front ++ w ∷ []) left (omega arith))))

keys_enough : (n m : ℕ) (front : List (List ℕ)) (s : Stream) → size s ≤ n → size s ≤ m → keys_within n front s ≡ keys_within m front s
unfolding bind token_parser
keys_enough zero zero front s a b = refl
keys_enough zero (suc m) front (ends q) a b = refl
keys_enough zero (suc m) front (stops q) a b = refl
keys_enough zero (suc m) front (t then s) a b = absurd (omega arith)
keys_enough (suc n) zero front (ends q) a b = refl
keys_enough (suc n) zero front (stops q) a b = refl
keys_enough (suc n) zero front (t then s) a b = absurd (omega arith)
keys_enough (suc n) (suc m) front s a b = body_alike (keys_within n) (keys_within m) s front (λ fr r lt. keys_enough n m fr r (omega arith) (omega arith))

pub keys_go : (front : List (List ℕ)) (s : Stream) → keys_and_function front s ≡ keys_body keys_and_function front s
unfolding keys_and_function bind token_parser
keys_go front (ends q) = refl
keys_go front (stops q) = refl
keys_go front (t then s) =
    body_alike (keys_within (size s)) (λ fr r. keys_within (size r) fr r) (t then s) front (λ fr r lt. keys_enough (size s) (size r) fr r (omega arith) (omega arith))

-- after the word that follows a comma
abbrev pub after_word : List (List ℕ) → List ℕ → Parser (List (List ℕ) × Fun)
after_word front w = choose (is_mark marks.Open) (function_head (function_of_word w) >>= λ f. gives (front, f)) (keys_and_function (front ++ w ∷ []))

keys_at_word : (front : List (List ℕ)) (w : List ℕ) (s r left : Stream) → token_parser (is_mark marks.Comma) s ≡ Ok (tt, r) → name r ≡ Ok (w, left) → keys_and_function front s ≡ after_word front w left
unfolding bind
keys_at_word front w s r left a b = keys_go front s ∙ rw (a, b) refl

pub keys_turn : (front : List (List ℕ)) (w : List ℕ) (s r left : Stream) (total : Result ((List (List ℕ) × Fun) × Stream) Fault) → token_parser (is_mark marks.Comma) s ≡ Ok (tt, r) → name r ≡ Ok (w, left) → heads (is_mark marks.Open) left ≡ false
    → keys_and_function front s ≡ total → keys_and_function (front ++ w ∷ []) left ≡ total
unfolding choose
keys_turn front w s r left total a b e so_far =
    let k : after_word front w left ≡ keys_and_function (front ++ w ∷ []) left = rw e refl in
    sym k ∙ sym (keys_at_word front w s r left a b) ∙ so_far

keys_at_function : (front : List (List ℕ)) (w : List ℕ) (s r left : Stream) (total : Result ((List (List ℕ) × Fun) × Stream) Fault) → token_parser (is_mark marks.Comma) s ≡ Ok (tt, r) → name r ≡ Ok (w, left) → heads (is_mark marks.Open) left ≡ true
    → keys_and_function front s ≡ total → go_on (function_head (function_of_word w) left) (λ f. gives (front, f)) ≡ total
unfolding choose bind
keys_at_function front w s r left total a b e so_far =
    let k : after_word front w left ≡ go_on (function_head (function_of_word w) left) (λ f. gives (front, f)) = rw e refl in
    sym k ∙ sym (keys_at_word front w s r left a b) ∙ so_far

pub keys_done : (front : List (List ℕ)) (w : List ℕ) (f : Fun) (s r left last : Stream) (total : Result ((List (List ℕ) × Fun) × Stream) Fault) → token_parser (is_mark marks.Comma) s ≡ Ok (tt, r) → name r ≡ Ok (w, left) → heads (is_mark marks.Open) left ≡ true
    → function_head (function_of_word w) left ≡ Ok (f, last) → keys_and_function front s ≡ total → total ≡ Ok ((front, f), last)
keys_done front w f s r left last total a b e k so_far = sym (keys_at_function front w s r left total a b e so_far) ∙ rw k refl

pub keys_fail_at_function : (d : ReadError) (front : List (List ℕ)) (w : List ℕ) (s r left : Stream) (total : Result ((List (List ℕ) × Fun) × Stream) Fault) → token_parser (is_mark marks.Comma) s ≡ Ok (tt, r) → name r ≡ Ok (w, left) → heads (is_mark marks.Open) left ≡ true
    → Fails d (function_head (function_of_word w) left) → keys_and_function front s ≡ total → Fails d total
keys_fail_at_function d front w s r left total a b e k so_far =
    fails_along d _ total (keys_at_function front w s r left total a b e so_far) (go_on_fails d (function_head (function_of_word w) left) (λ f. gives (front, f)) k)

pub keys_fail_at_name : (d : ReadError) (front : List (List ℕ)) (s r : Stream) (total : Result ((List (List ℕ) × Fun) × Stream) Fault) → token_parser (is_mark marks.Comma) s ≡ Ok (tt, r) → Fails d (name r)
    → keys_and_function front s ≡ total → Fails d total
unfolding bind
keys_fail_at_name d front s r total a k so_far =
    let one : keys_and_function front s ≡ go_on (name r) (λ w. after_word front w) = keys_go front s ∙ rw a refl in
    fails_along d _ total (sym one ∙ so_far) (go_on_fails d (name r) (λ w. after_word front w) k)

pub keys_fail_at_comma : (d : ReadError) (front : List (List ℕ)) (s : Stream) (total : Result ((List (List ℕ) × Fun) × Stream) Fault) → Fails d (token_parser (is_mark marks.Comma) s)
    → keys_and_function front s ≡ total → Fails d total
unfolding bind
keys_fail_at_comma d front s total k so_far =
    fails_along d _ total (sym (keys_go front s) ∙ so_far) (go_on_fails d (token_parser (is_mark marks.Comma) s) (λ _. name >>= λ w. after_word front w) k)

pub keys_shrink : (front : List (List ℕ)) (w : List ℕ) (s r left : Stream) → token_parser (is_mark marks.Comma) s ≡ Ok (tt, r) → name r ≡ Ok (w, left) → size left < size s
keys_shrink front w s r left a b =
    let lt = wanted_less (is_mark marks.Comma) s tt r a in
    let le = forward-name.goes r w left b in
    omega arith

-- ---- items of GROUP BY

pub items_turn : (i : ℕ) (n : List ℕ) (names : List (List ℕ)) (s r left : Stream) (total : Result (Unit {0} × Stream) Fault) → token_parser (is_mark marks.Comma) s ≡ Ok (tt, r) → token_parser (is_item i n) r ≡ Ok (tt, left)
    → items_from i (n ∷ names) s ≡ total → items_from (suc i) names left ≡ total
unfolding bind
items_turn i n names s r left total a b so_far =
    let one : items_from i (n ∷ names) s ≡ items_from (suc i) names left = rw (a, b) refl in
    sym one ∙ so_far

pub items_fail_at_item : (d : ReadError) (i : ℕ) (n : List ℕ) (names : List (List ℕ)) (s r : Stream) (total : Result (Unit {0} × Stream) Fault) → token_parser (is_mark marks.Comma) s ≡ Ok (tt, r) → Fails d (token_parser (is_item i n) r)
    → items_from i (n ∷ names) s ≡ total → Fails d total
unfolding bind
items_fail_at_item d i n names s r total a k so_far =
    let one : items_from i (n ∷ names) s ≡ go_on (token_parser (is_item i n) r) (λ _. items_from (suc i) names) = rw a refl in
    fails_along d _ total (sym one ∙ so_far) (go_on_fails d (token_parser (is_item i n) r) (λ _. items_from (suc i) names) k)

pub items_fail_at_comma : (d : ReadError) (i : ℕ) (n : List ℕ) (names : List (List ℕ)) (s : Stream) (total : Result (Unit {0} × Stream) Fault) → Fails d (token_parser (is_mark marks.Comma) s)
    → items_from i (n ∷ names) s ≡ total → Fails d total
unfolding bind
items_fail_at_comma d i n names s total k so_far =
    fails_along d _ total so_far (go_on_fails d (token_parser (is_mark marks.Comma) s) (λ _. token_parser (is_item i n) >> items_from (suc i) names) k)

pub drop_at_item : {A : Type 0} (xs : List A) (i : ℕ) (x : A) → i < length xs → x ≡ get_or xs i x → drop i xs ≡ x ∷ drop (suc i) xs
drop_at_item xs i x lt e = drop-cons xs i x lt ∙ ap (λ y. y ∷ drop (suc i) xs) (sym e)
