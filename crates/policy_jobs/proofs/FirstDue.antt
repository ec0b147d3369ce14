-- Before the earliest time at which one of some policies is due, none of them is.
use Rattle.std.proofs.Common.{◌≡◌, ◌∙◌, ℤ, ◌+ℤ◌, ◌-ℤ◌, ◌<ℤ◌, true, false, int_le, int_lt, List, [], ◌∷◌, Option, Some, None, FitsSigned, w64, ap, refl, arith}
use Rattle.std.specs.Prelude.{◌||◌}
use Rattle.std.specs.Int.{int_min}
use Rattle.std.specs.List.{list_any}
use Rattle.std.proofs.lemmas.Int.{ints}
use Rattle.ts_schema.proofs.Cases.{int_lt-true}
use Rattle.policy_jobs.specs.Policies.{due_after, first_due, is_back, is_due}
use Rattle.policy_jobs.specs.declared.policies.Policy.{Policy}

before_first : (now a b : ℤ) → now <ℤ int_min a b → now <ℤ a
before_first now a b h = grind (arith, ints)

before_second : (now a b : ℤ) → now <ℤ int_min a b → now <ℤ b
before_second now a b h = grind (arith, ints)

-- a time too soon after the last run
too_soon : (now every last : ℤ) → now <ℤ (last +ℤ every) → int_le every (now -ℤ last) ≡ false
too_soon now every last h = grind (arith, ints)

not_back : (now every : ℤ) (ran : Option ℤ) → FitsSigned w64 now → now <ℤ due_after every ran → is_back now every ran ≡ false
not_back now every None fits h = absurd (omega (arith, ints))
not_back now every (Some last) fits h = too_soon now every last h

none_due : (now : ℤ) (ps : List Policy) → FitsSigned w64 now → now <ℤ first_due ps → list_any (is_due now) ps ≡ false
none_due now [] fits h = refl
none_due now (p ∷ ps) fits h =
    ap (λ t. t || list_any (is_due now) ps) (not_back now p.every p.ran fits (before_first now (due_after p.every p.ran) (first_due ps) h))
    ∙ none_due now ps fits (before_second now (due_after p.every p.ran) (first_due ps) h)

pub none_before : (now : ℤ) (ps : List Policy) → FitsSigned w64 now → int_lt now (first_due ps) ≡ true → list_any (is_due now) ps ≡ false
none_before now ps fits e = none_due now ps fits (int_lt-true now (first_due ps) e)
