-- Tokens at their places, in front of a stream.
use Rattle.std.proofs.Common.{◌≡◌, ℕ, ◌+◌, Bool, true, false, List, [], ◌∷◌, ◌++◌, length, refl, sym, ap, ◌∙◌, arith, inl, inr}
use Rattle.std.specs.Prelude.{◌⊎◌}
use Rattle.stmt_tokens.specs.Tokens.{Token}
use Rattle.stmt_tokens.specs.Scan.{Seen, seen_token}
use Rattle.stmt_tokens.specs.Streams.{Placed, Stream, ends, stops, ◌then◌, onto, plain, size, seen_ahead, passes, heads, tail}
use Rattle.stmt_reader.specs.Refusals.{is_fit}
use Rattle.stmt_reader.specs.declared.faults.Fault.{Fault}
use Rattle.stmt_reader.specs.declared.faults.Fault.TheVariants.{BadNumber}

-- each number is an i64
abbrev pub AllFit : List Placed → Type 0
AllFit [] = Unit {0}
AllFit (t ∷ ts) = (is_fit t.token ≡ true) × AllFit ts

-- the fault is that of a number among these that isn't an i64
abbrev pub MisfitIn : List Placed → Fault → Type 0
MisfitIn [] f = ⊥
MisfitIn (t ∷ ts) f = ((is_fit t.token ≡ false) × (f ≡ BadNumber t.at)) ⊎ MisfitIn ts f

pub no_misfit : (ts : List Placed) (f : Fault) → AllFit ts → MisfitIn ts f → ⊥
no_misfit [] f fit m = m
no_misfit (t ∷ ts) f fit (inl m) = absurd (true_is_not_false (sym fit.0 ∙ m.0))
  where
    true_is_not_false : true ≡ false → ⊥
    true_is_not_false e = cc
no_misfit (t ∷ ts) f fit (inr m) = no_misfit ts f fit.1 m

pub misfit_left : (us vs : List Placed) (f : Fault) → MisfitIn us f → MisfitIn (us ++ vs) f
misfit_left [] vs f m = absurd m
misfit_left (t ∷ us) vs f (inl m) = inl m
misfit_left (t ∷ us) vs f (inr m) = inr (misfit_left us vs f m)

pub misfit_right : (us vs : List Placed) (f : Fault) → MisfitIn vs f → MisfitIn (us ++ vs) f
misfit_right [] vs f m = m
misfit_right (t ∷ us) vs f m = inr (misfit_right us vs f m)

pub misfit_is_bad_number : (ts : List Placed) (f : Fault) → MisfitIn ts f → (p : ℕ) × (f ≡ BadNumber p)
misfit_is_bad_number [] f m = absurd m
misfit_is_bad_number (t ∷ ts) f (inl m) = (t.at, m.1)
misfit_is_bad_number (t ∷ ts) f (inr m) = misfit_is_bad_number ts f m

pub fit-append : (us vs : List Placed) → AllFit us → AllFit vs → AllFit (us ++ vs)
fit-append [] vs a b = b
fit-append (t ∷ us) vs a b = (a.0, fit-append us vs a.1 b)

pub onto-append : (us vs : List Placed) (s : Stream) → onto (us ++ vs) s ≡ onto us (onto vs s)
onto-append [] vs s = refl
onto-append (t ∷ us) vs s = ap (λ r. t then r) (onto-append us vs s)

pub plain-append : (us vs : List Placed) → plain (us ++ vs) ≡ plain us ++ plain vs
plain-append [] vs = refl
plain-append (t ∷ us) vs = ap (λ ts. t.token ∷ ts) (plain-append us vs)

pub size-onto : (ts : List Placed) (s : Stream) → size (onto ts s) ≡ length ts + size s
size-onto [] s = omega arith
size-onto (t ∷ ts) s = omega (arith, size-onto ts s)

-- what two lists of tokens make up, two lists of placed tokens make up
pub record Splits (ts : List Placed) (us vs : List Token) : Type 0 where
  pub front : List Placed
  pub back : List Placed
  pub both : ts ≡ front ++ back
  pub front-is : plain front ≡ us
  pub back-is : plain back ≡ vs

pub splits : (ts : List Placed) (us vs : List Token) → plain ts ≡ us ++ vs → Splits ts us vs
splits ts [] vs e = record { front = []; back = ts; both = refl; front-is = refl; back-is = e }
splits [] (u ∷ us) vs e = absurd cc
splits (t ∷ ts) (u ∷ us) vs e =
    let h : t.token ≡ u = cc in
    let k : plain ts ≡ us ++ vs = cc in
    let r = splits ts us vs k in
    record {
      front = t ∷ r.front;
      back = r.back;
      both = ap (λ x. t ∷ x) r.both;
      front-is = rw h (ap (λ x. u ∷ x) r.front-is);
      back-is = r.back-is;
    }

-- one token
pub record Single (ts : List Placed) (t : Token) : Type 0 where
  pub at : Placed
  pub only : ts ≡ at ∷ []
  pub is : at.token ≡ t

pub single : (ts : List Placed) (t : Token) → plain ts ≡ t ∷ [] → Single ts t
single [] t e = absurd cc
single (x ∷ []) t e = record { at = x; only = refl; is = cc }
single (x ∷ y ∷ ts) t e = absurd cc

pub nothing_placed : (ts : List Placed) → plain ts ≡ [] → ts ≡ []
nothing_placed [] e = refl
nothing_placed (x ∷ ts) e = absurd cc

-- tokens at some places
abbrev pub placed : List Token → List Placed
placed [] = []
placed (t ∷ ts) = (record { at = 0; token = t }) ∷ placed ts

pub plain-placed : (ts : List Token) → plain (placed ts) ≡ ts
plain-placed [] = refl
plain-placed (t ∷ ts) = ap (λ x. t ∷ x) (plain-placed ts)

-- what comes next stays the same, whatever follows
pub ahead_onto : (ts : List Placed) (l r : Stream) → seen_ahead l ≡ seen_ahead r → seen_ahead (onto ts l) ≡ seen_ahead (onto ts r)
ahead_onto [] l r e = e
ahead_onto (t ∷ ts) l r e = refl

pub heads_alike : (test : Seen → Bool) (l r : Stream) → seen_ahead l ≡ seen_ahead r → heads test l ≡ heads test r
heads_alike test l r e = ap (passes test) e

pub heads_onto : (test : Seen → Bool) (ts : List Placed) (l r : Stream) → seen_ahead l ≡ seen_ahead r → heads test (onto ts l) ≡ heads test (onto ts r)
heads_onto test ts l r e = heads_alike test (onto ts l) (onto ts r) (ahead_onto ts l r e)

-- a stream whose next token passes a test
pub record Heads (test : Seen → Bool) (s : Stream) : Type 0 where
  pub first : Placed
  pub is : s ≡ first then (tail s)
  pub passed : test (seen_token first.token) ≡ true

pub heads_is : (test : Seen → Bool) (s : Stream) → heads test s ≡ true → Heads test s
heads_is test (ends p) e = absurd cc
heads_is test (stops p) e = absurd cc
heads_is test (t then s) e = record { first = t; is = refl; passed = e }
