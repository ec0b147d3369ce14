-- Disk calls in order.
use Rattle.std.proofs.Common.{inl, inr, ⊎_elim, ℕ, List, Option, Result, Ok, Err, OnOk, refl, ◌∙◌, arith}
use Rattle.ts_disk.specs.CrashImage.{Elapses, LeavesOnly}
use Rattle.ts_disk.specs.Disk.{Keeps}

module _ {D : Type 0} (moment : D → ℕ) (left_since : D → ℕ → List ℕ → Type 0) where
  -- before the first call
  pub started : (old : D) (P : List ℕ → Type 0) → ((c : List ℕ) → left_since old (moment old) c → P c) → LeavesOnly moment left_since old old P
  started old P here = record { later = omega arith; each = here; before = λ t c le left. inl left; keeps = λ t c le left. left }

  -- one more call, after which each crash image has P
  pub goes_on : (old mid new : D) (P may_leave : List ℕ → Type 0) → LeavesOnly moment left_since old mid P → Elapses (moment mid) (moment new) (left_since mid) (left_since new) may_leave
      → ((c : List ℕ) → may_leave c → P c) → LeavesOnly moment left_since old new P
  goes_on old mid new P may_leave so_far time here = record {
    later = omega (arith, so_far.later, time.later);
    each = λ c left. ⊎_elim (so_far.each c) (here c) (time.nothing_else (moment old) c so_far.later left);
    before = λ t c le left. ⊎_elim (so_far.before t c le) (λ now. inr (here c now)) (time.nothing_else t c (omega (arith, le, so_far.later)) left);
    keeps = λ t c le left. time.keeps t c (omega (arith, le, so_far.later)) (so_far.keeps t c le left);
  }

  -- two runs in order
  pub follows : (old mid new : D) (P Q R : List ℕ → Type 0) → LeavesOnly moment left_since old mid P → LeavesOnly moment left_since mid new Q
      → ((c : List ℕ) → P c → R c) → ((c : List ℕ) → Q c → R c) → LeavesOnly moment left_since old new R
  follows old mid new P Q R first second from_first from_second = record {
    later = omega (arith, first.later, second.later);
    each = λ c left. ⊎_elim (λ was. from_first c (first.each c was)) (from_second c) (second.before (moment old) c first.later left);
    before = λ t c le left. ⊎_elim (λ was. ⊎_elim inl (λ p. inr (from_first c p)) (first.before t c le was)) (λ q. inr (from_second c q)) (second.before t c (omega (arith, le, first.later)) left);
    keeps = λ t c le left. second.keeps t c (omega (arith, le, first.later)) (first.keeps t c le left);
  }

  -- a property of each outcome implies a weaker one
  pub weaker : (old new : D) (P Q : List ℕ → Type 0) → LeavesOnly moment left_since old new P → ((c : List ℕ) → P c → Q c) → LeavesOnly moment left_since old new Q
  weaker old new P Q run from = record {
    later = run.later;
    each = λ c left. from c (run.each c left);
    before = λ t c le left. ⊎_elim inl (λ p. inr (from c p)) (run.before t c le left);
    keeps = run.keeps;
  }

-- two calls that don't change a disk
pub keeps_both : {D : Type 0} (bytes : D → Option (List ℕ)) (may_leave : D → List ℕ → Type 0) (moment : D → ℕ) (left_since : D → ℕ → List ℕ → Type 0) (old mid new : D)
    → Keeps bytes may_leave moment left_since old mid → Keeps bytes may_leave moment left_since mid new → Keeps bytes may_leave moment left_since old new
keeps_both bytes may_leave moment left_since old mid new first second = record {
  same = second.same ∙ first.same;
  at_moment = second.at_moment ∙ first.at_moment;
  leaves = λ c left. first.leaves c (second.leaves c left);
  left = λ c left. second.left c (first.left c left);
  past = λ t c left. first.past t c (second.past t c left);
  past_left = λ t c left. second.past_left t c (first.past_left t c left);
}

pub keeps_same : {D : Type 0} (bytes : D → Option (List ℕ)) (may_leave : D → List ℕ → Type 0) (moment : D → ℕ) (left_since : D → ℕ → List ℕ → Type 0) (disk : D) → Keeps bytes may_leave moment left_since disk disk
keeps_same bytes may_leave moment left_since disk = record { same = refl; at_moment = refl; leaves = λ c left. left; left = λ c left. left; past = λ t c left. left; past_left = λ t c left. left }

-- consequences of a call that succeeded
pub on_ok : {T E : Type 0} (P Q : Type 0) (result : Result T E) → OnOk result P → (P → Q) → OnOk result Q
on_ok P Q (Ok v) here from = from here
on_ok P Q (Err e) here from = tt
