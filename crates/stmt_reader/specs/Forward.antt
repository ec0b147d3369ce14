-- Reading never goes back: at most as many tokens are left as before.
use Rattle.std.proofs.Common.{◌≡◌, ℕ, zero, suc, ◌≤◌, Bool, true, false, cond, List, [], ◌∷◌, ◌++◌, Option, Some, None, Result, Ok, Err, refl, ap, subst, arith}
use Rattle.std.specs.Prelude.{option_and_then}
use Rattle.stmt_tokens.specs.Scan.{Seen}
use Rattle.stmt_tokens.specs.Words.{word_of, number_of}
use Rattle.stmt_tokens.specs.Streams.{Stream, ends, stops, ◌then◌, size, heads, tail, seen_ahead}
use Rattle.stmt_reader.specs.Reading.{fault_here, Parser, gives, go_on, bind, takes, choose, token_value, one, token_parser, fitting_number, number, repeat, more, parts, list_parser, value, row, not_null, column, null_test, number_test, any_test, alias, argument, aggregate_rest, aggregate, name}
use Rattle.stmt_reader.specs.declared.faults.Fault.{Fault}

-- a parser leaves at most as many tokens as it was given
pub record Forward {A : Type 0} (p : Parser A) : Type 0 where
  pub goes : (s : Stream) (a : A) (left : Stream) → p s ≡ Ok (a, left) → size left ≤ size s

abbrev done : {A : Type 0} → A → Stream → Result (A × Stream) Fault
done a s = Ok (a, s)

left_of : {A : Type 0} → Stream → Result (A × Stream) Fault → Stream
left_of d (Ok x) = x.1
left_of d (Err f) = d

left_is : {A : Type 0} (a b : A) (s left : Stream) → done a s ≡ done b left → s ≡ left
unfolding left_of
left_is a b s left e = ap (left_of s) e

size-tail : (s : Stream) → size (tail s) ≤ size s
size-tail (ends p) = omega arith
size-tail (stops p) = omega arith
size-tail (t then s) = omega arith

pub forward-gives : {A : Type 0} (a : A) → Forward (gives a)
forward-gives a =
    record {
      goes = λ s b left e. let k = left_is a b s left e in subst (λ (r : Stream). size r ≤ size s) k (omega arith);
    }

go_on_goes : {A B : Type 0} (n : ℕ) (r : Result (A × Stream) Fault) (q : A → Parser B) (b : B) (left : Stream)
    → ((a : A) (s : Stream) → r ≡ Ok (a, s) → size s ≤ n) → ((a : A) → Forward (q a)) → go_on r q ≡ Ok (b, left)
    → size left ≤ n
go_on_goes n (Ok x) q b left h f e = omega (arith, h x.0 x.1 refl, (f x.0).goes x.1 b left e)
go_on_goes n (Err d) q b left h f e = absurd cc

pub forward-bind :
    {A B : Type 0} {p : Parser A} {q : A → Parser B} → Forward p → ((a : A) → Forward (q a)) → Forward (bind p q)
unfolding bind
forward-bind {p = p} {q = q} f g =
    record { goes = λ s b left e. go_on_goes (size s) (p s) q b left (λ a r h. f.goes s a r h) g e }

cond_goes : {A : Type 0} (t : Bool) (x y : Result (A × Stream) Fault) (n : ℕ) (a : A) (left : Stream)
    → (x ≡ Ok (a, left) → size left ≤ n) → (y ≡ Ok (a, left) → size left ≤ n) → cond t x y ≡ Ok (a, left)
    → size left ≤ n
cond_goes true x y n a left f g e = f e
cond_goes false x y n a left f g e = g e

pub forward-takes :
    {A : Type 0} (when : Seen → Bool) {p q : Parser A} → Forward p → Forward q → Forward (takes when p q)
unfolding takes
forward-takes when {p = p} {q = q} f g = record {
  goes = λ s a left e.
      cond_goes (heads when s) (p (tail s)) (q s) (size s) a left (λ h. omega (arith, f.goes (tail s) a left h, size-tail s)) (g.goes s a left) e;
}

pub forward-choose :
    {A : Type 0} (when : Seen → Bool) {p q : Parser A} → Forward p → Forward q → Forward (choose when p q)
unfolding choose
forward-choose when {p = p} {q = q} f g =
    record {
      goes = λ s a left e. cond_goes (heads when s) (p s) (q s) (size s) a left (f.goes s a left) (g.goes s a left) e;
    }

said_goes :
    {A : Type 0} (s : Stream) (o : Option A) (a : A) (left : Stream) → token_value s o ≡ Ok (a, left) → size left ≤ size s
said_goes s None a left e = absurd cc
said_goes s (Some b) a left e = let k = left_is b a (tail s) left e in subst (λ (r : Stream). size r ≤ size s) k (size-tail s)

pub forward-one : {A : Type 0} (f : Seen → Option A) → Forward (one f)
unfolding one
forward-one f = record { goes = λ s a left e. said_goes s (option_and_then f (seen_ahead s)) a left e }

pub forward-wanted : (when : Seen → Bool) → Forward (token_parser when)
unfolding token_parser
forward-wanted when = record {
  goes = λ s a left e.
      cond_goes (heads when s) (Ok (tt, tail s)) (Err (fault_here s)) (size s) a left
      (λ h. let k = left_is tt a (tail s) left h in subst (λ (r : Stream). size r ≤ size s) k (size-tail s))
      (λ h. absurd cc) e;
}

fitting_goes :
    (s : Stream) (o : Option (Option _)) (a : _) (left : Stream) → fitting_number s o ≡ Ok (a, left) → size left ≤ size s
fitting_goes s None a left e = absurd cc
fitting_goes s (Some None) a left e = absurd cc
fitting_goes s (Some (Some z)) a left e = let k = left_is z a (tail s) left e in subst (λ (r : Stream). size r ≤ size s) k (size-tail s)

pub forward-number : Forward number
unfolding number
forward-number = record { goes = λ s a left e. fitting_goes s (option_and_then number_of (seen_ahead s)) a left e }

forward-repeat : {A : Type 0} (n : ℕ) (when : Seen → Bool) (p : Parser A) (front : List A) → Forward p
    → Forward (repeat n when p front)
forward-repeat zero when p front f = forward-gives front
forward-repeat (suc n) when p front f =
    forward-takes when (forward-bind f (λ a. forward-repeat n when p (front ++ a ∷ []) f)) (forward-gives front)

pub forward-more :
    {A : Type 0} (when : Seen → Bool) (p : Parser A) (front : List A) → Forward p → Forward (more when p front)
unfolding more
forward-more when p front f = record { goes = λ s a left e. (forward-repeat (size s) when p front f).goes s a left e }

pub forward-listed : {A : Type 0} (separator : _) (p : Parser A) → Forward p → Forward (list_parser separator p)
unfolding list_parser
forward-listed separator p f = forward-bind f (λ a. forward-more (parts separator) p (a ∷ []) f)

-- ---- phrases

pub forward-name : Forward name
forward-name = forward-one word_of

pub forward-value : Forward value
unfolding value
forward-value = forward-takes _ (forward-gives None) (forward-bind forward-number (λ z. forward-gives (Some z)))

pub forward-row : Forward row
unfolding row
forward-row =
    forward-bind (forward-wanted _)
    (λ _. forward-bind (forward-listed _ value forward-value) (λ vs. forward-bind (forward-wanted _) (λ _. forward-gives vs)))

pub forward-column : Forward column
unfolding column not_null
forward-column =
    forward-bind forward-name
    (λ c. forward-bind (forward-wanted _) (λ _. forward-bind (forward-takes _ (forward-bind (forward-wanted _) (λ _. forward-gives true)) (forward-gives false)) (λ must. forward-gives _)))

pub forward-test : Forward any_test
unfolding any_test null_test number_test
forward-test = forward-bind forward-name (λ c. forward-takes _
    (forward-takes _ (forward-bind (forward-wanted _) (λ _. forward-gives _)) (forward-bind (forward-wanted _) (λ _. forward-gives _)))
    (forward-bind (forward-one _) (λ op. forward-bind forward-number (λ z. forward-gives _))))

pub forward-alias : Forward alias
unfolding alias
forward-alias = forward-takes _ (forward-bind forward-name (λ x. forward-gives (Some x))) (forward-gives None)

pub forward-aggregate : Forward aggregate
unfolding aggregate aggregate_rest argument
forward-aggregate = forward-bind (forward-one _) (λ f. forward-bind (forward-wanted _) (λ _.
    forward-bind (forward-takes _ (forward-gives _) (forward-bind forward-name (λ c. forward-gives _))) (λ a.
    forward-bind (forward-wanted _) (λ _. forward-bind forward-alias (λ x. forward-gives _)))))
