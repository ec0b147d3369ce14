-- A byte that is a code is read exactly.
use Rattle.std.proofs.Common.{◌≡◌, ℕ, ◌≤◌, Bool, true, false, cond, eqb, List, [], ◌∷◌, ◌++◌, length, Option, Some, None, Ok, Err, refl, sym, ap, ◌∙◌, arith}
use Rattle.std.proofs.lemmas.Bool.{eqb-true}
use Rattle.ts_num.specs.declared.values.Fun.{Fun}
use Rattle.ts_num.specs.declared.values.Fun.TheVariants.{CountAll, Count, Sum, Min, Max, Avg}
use Rattle.ts_schema.specs.declared.conditions.Cmp.{Cmp}
use Rattle.ts_schema.specs.declared.conditions.Cmp.TheVariants.{Eq, Ne, Lt, Le, Gt, Ge, IsNull, NotNull}
use Rattle.event_codec.specs.declared.kinds.Kind.{Kind}
use Rattle.event_codec.specs.declared.kinds.Kind.TheVariants as kinds
use Rattle.event_codec.specs.declared.kinds.OpKind.{OpKind}
use Rattle.event_codec.specs.declared.kinds.OpKind.TheVariants as op_kinds
use Rattle.event_codec.specs.Codes.{flag_code, cmp_code, fun_code, kind_code, op_code}
use Rattle.event_codec.specs.Spelling.{flag}
use Rattle.event_codec.specs.Reading.{coded_byte, read_as, with_code, flag_of, cmp_of, fun_of, kind_of, op_kind_of}
use Rattle.event_codec.proofs.Formats.{IsFormat, Stands, same_value, same_left}

-- anything fits
abbrev pub Any : {A : Type 0} → A → Type 0
Any a = Unit {0}

-- a value with a code was found by that code
pub found_code : {A : Type 0} (code : A → ℕ) (all : List A) (b : ℕ) (a : A) → with_code code all b ≡ Some a → code a ≡ b
found_code code [] b a e = absurd cc
found_code {A} code (x ∷ all) b a e = by_test (eqb b (code x)) refl (found_code code all b a) e
  where
    by_test : (t : Bool) → eqb b (code x) ≡ t → (with_code code all b ≡ Some a → code a ≡ b) → cond t (Some x) (with_code code all b) ≡ Some a → code a ≡ b
    by_test true is others e = let same : x ≡ a = cc in ap code (sym same) ∙ sym (eqb-true b (code x) is)
    by_test false is others e = others e

module _ {A : Type 0} (code : A → ℕ) (find : ℕ → Option A) (some : A) (back : (b : ℕ) (a : A) → find b ≡ Some a → code a ≡ b) (there : (a : A) → find (code a) ≡ Some a) where
  spelled : A → List ℕ
  spelled a = code a ∷ []

  coded_takes : (bytes : List ℕ) (a : A) (left : List ℕ) → coded_byte find bytes ≡ Ok (a, left) → Stands (λ a. code a ∷ []) Any bytes a left
  coded_takes [] a left e = absurd cc
  coded_takes (b ∷ bytes) a left e = by_cases (find b) refl e
    where
      by_cases : (o : Option A) → find b ≡ o → read_as o (b ∷ bytes) bytes ≡ Ok (a, left) → Stands (λ a. code a ∷ []) Any (b ∷ bytes) a left
      by_cases None is e = absurd cc
      by_cases (Some c) is e =
          let value = same_value c a bytes left e in
          let rest = same_left c a bytes left e in
          let is_code : code a ≡ b = ap code (sym value) ∙ back b c is in
          record { ok = tt; parts = cc (rest, is_code) }

  coded_fails : (bytes left : List ℕ) → coded_byte find bytes ≡ Err left → left ≡ bytes
  coded_fails [] left e = cc
  coded_fails (b ∷ bytes) left e = by_cases (find b) e
    where
      by_cases : (o : Option A) → read_as o (b ∷ bytes) bytes ≡ Err left → left ≡ b ∷ bytes
      by_cases None e = cc
      by_cases (Some c) e = absurd cc

  coded_longest : (bytes left : List ℕ) → coded_byte find bytes ≡ Err left → (a : A) (other front more : List ℕ) → bytes ≡ front ++ other → code a ∷ [] ≡ front ++ more → length bytes ≤ length other
  coded_longest bytes left e a other [] more parts begun = let same : bytes ≡ other = parts in omega (arith, ap length same)
  coded_longest [] left e a other (x ∷ front) more parts begun = absurd cc
  coded_longest (b ∷ bytes) left e a other (x ∷ front) more parts begun =
      let first : b ≡ x = cc in
      let second : code a ≡ x = cc in
      let is : find b ≡ Some a = ap find (first ∙ sym second) ∙ there a in
      let read : coded_byte find (b ∷ bytes) ≡ Ok (a, bytes) = ap (λ (o : Option A). read_as o (b ∷ bytes) bytes) is in
      absurd cc

  pub coded_format : IsFormat (λ a. code a ∷ []) Any (coded_byte find)
  coded_format = record {
    sample = record { value = some; ok = tt };
    takes = coded_takes;
    again = λ a left h. ap (λ (o : Option A). read_as o (code a ∷ left) left) (there a);
    viable = λ bytes left e. record { value = some; ok = tt; begins = record { front = []; more = code some ∷ []; parts = sym (coded_fails bytes left e); begun = refl } };
    longest = λ bytes left e a other h begins. let same = coded_fails bytes left e in omega (arith, ap length same, coded_longest bytes left e a other begins.front begins.more begins.parts begins.begun);
  }

flags : (b : Bool) → flag_of (flag_code b) ≡ Some b
flags false = refl
flags true = refl

pub flag_format : IsFormat flag Any (coded_byte flag_of)
flag_format = coded_format flag_code flag_of false (found_code flag_code (false ∷ true ∷ [])) flags

cmps : (c : Cmp) → cmp_of (cmp_code c) ≡ Some c
cmps Eq = refl
cmps Ne = refl
cmps Lt = refl
cmps Le = refl
cmps Gt = refl
cmps Ge = refl
cmps IsNull = refl
cmps NotNull = refl

pub cmp_format : IsFormat (λ c. cmp_code c ∷ []) Any (coded_byte cmp_of)
cmp_format = coded_format cmp_code cmp_of Eq (found_code cmp_code (Eq ∷ Ne ∷ Lt ∷ Le ∷ Gt ∷ Ge ∷ IsNull ∷ NotNull ∷ [])) cmps

funs : (f : Fun) → fun_of (fun_code f) ≡ Some f
funs CountAll = refl
funs Count = refl
funs Sum = refl
funs Min = refl
funs Max = refl
funs Avg = refl

pub fun_format : IsFormat (λ f. fun_code f ∷ []) Any (coded_byte fun_of)
fun_format = coded_format fun_code fun_of CountAll (found_code fun_code (CountAll ∷ Count ∷ Sum ∷ Min ∷ Max ∷ Avg ∷ [])) funs

every_kind : (k : Kind) → kind_of (kind_code k) ≡ Some k
every_kind kinds.Table = refl
every_kind kinds.Hyper = refl
every_kind kinds.View = refl
every_kind kinds.Mode = refl
every_kind kinds.Commit = refl
every_kind kinds.Cut = refl
every_kind kinds.Built = refl

pub kind_format : IsFormat (λ k. kind_code k ∷ []) Any (coded_byte kind_of)
kind_format = coded_format kind_code kind_of kinds.Table (found_code kind_code (kinds.Table ∷ kinds.Hyper ∷ kinds.View ∷ kinds.Mode ∷ kinds.Commit ∷ kinds.Cut ∷ kinds.Built ∷ [])) every_kind

every_op : (k : OpKind) → op_kind_of (op_code k) ≡ Some k
every_op op_kinds.Insert = refl
every_op op_kinds.Delete = refl

pub op_kind_format : IsFormat (λ k. op_code k ∷ []) Any (coded_byte op_kind_of)
op_kind_format = coded_format op_code op_kind_of op_kinds.Insert (found_code op_code (op_kinds.Insert ∷ op_kinds.Delete ∷ [])) every_op
