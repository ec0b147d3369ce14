-- The session state fits a history that begins with an image, and still fits as the history grows.
use Rattle.std.proofs.Common.{◌≡◌, ℕ, ◌≤◌, true, false, cond, List, [], ◌∷◌, Some, sym, refl, ap, subst, arith}
use Rattle.std.proofs.lemmas.Bool.{true≢false}
use Rattle.std.specs.Prelude.{⊤, is_some}
use Rattle.std.specs.List.{AllByRecursion}
use Rattle.std.specs.Map.{remove_entry}
use Rattle.std.specs.BTreeMap.{insert_entry, is_at}
use Rattle.std.specs.Ordering.{is_eq, nat_cmp, match_ordering}
use Rattle.std.specs.declared.cmp.Ordering.TheVariants.{Less, Equal, Greater}
use Rattle.ts_model.specs.History.{History, position, Begins}
use Rattle.ts_model.proofs.HistoryLaws.{position_begins}
use Rattle.stmt_syntax.specs.Limits.{longest_input}
use Rattle.stmt_check.specs.Sound.{IsQueue}
use Rattle.stmt_check.proofs.QueueLaws.{queues_are_sound}
use Rattle.ts_sessions.specs.Places.{Block, none, writing, reading, Places, held_for}
use Rattle.ts_sessions.proofs.JobLaws.{same_key}

-- a position of a history at or above another
pub record IsFrom (base : ℕ) (h : History) (at : ℕ) : Type 0 where
  pub above : base ≤ at
  pub below : at ≤ position h

-- the queue of a write block can be committed, and its texts have at most this many bytes; a read block began at or
-- above the base
abbrev pub BlockFits : ℕ → ℕ → History → Block → Type 0
BlockFits base used h none = ⊤
BlockFits base used h (writing ops n) = IsQueue h n ops × (n ≤ used)
BlockFits base used h (reading at) = IsFrom base h at

-- a snapshot is held at or above the base, and not before its cut
pub record IsHeld (base : ℕ) (h : History) (cut at : ℕ) : Type 0 where
  pub from : IsFrom base h at
  pub after : cut ≤ at

abbrev pub AreHeld : ℕ → History → List (ℕ × ℕ) → Type 0
AreHeld base h held = AllByRecursion (λ e. IsHeld base h e.0 e.1) held

-- a session state fits a history
pub record PlacesFit (base used : ℕ) (h : History) (p : Places) : Type 0 where
  pub block : BlockFits base used h p.block
  pub held : AreHeld base h p.held

-- ---- as a history grows

from_on : (base : ℕ) (g h : History) (at : ℕ) → Begins g h → IsFrom base g at → IsFrom base h at
from_on base g h at on f = record { above = f.above; below = omega (arith, f.below, position_begins on) }

block_on : (base used more : ℕ) (g h : History) (b : Block) → Begins g h → used ≤ more → used ≤ longest_input → BlockFits base used g b → BlockFits base more h b
block_on base used more g h none on le few f = tt
block_on base used more g h (writing ops n) on le few f = (queues_are_sound.stays g h n ops on (omega (arith, f.1, few)) f.0, omega (arith, f.1, le))
block_on base used more g h (reading at) on le few f = from_on base g h at on f

held_on : (base : ℕ) (g h : History) (held : List (ℕ × ℕ)) → Begins g h → AreHeld base g held → AreHeld base h held
held_on base g h [] on f = tt
held_on base g h (e ∷ held) on f = (record { from = from_on base g h e.1 on f.0.from; after = f.0.after }, held_on base g h held on f.1)

pub places_on : (base used more : ℕ) (g h : History) (p : Places) → Begins g h → used ≤ more → used ≤ longest_input → PlacesFit base used g p → PlacesFit base more h p
places_on base used more g h p on le few f = record {
  block = block_on base used more g h p.block on le few f.block;
  held = held_on base g h p.held on f.held;
}

-- ---- snapshots

pub put_held : (base : ℕ) (h : History) (held : List (ℕ × ℕ)) (c at : ℕ) → IsHeld base h c at → AreHeld base h held → AreHeld base h (insert_entry nat_cmp held c at)
put_held base h [] c at i f = (i, tt)
put_held base h (e ∷ held) c at i f =
    elim (nat_cmp c e.0) as (λ o. nat_cmp c e.0 ≡ o → AreHeld base h (match_ordering o ((c, at) ∷ e ∷ held) ((e.0, at) ∷ held) (e ∷ insert_entry nat_cmp held c at))) [
      | Less ↦ λ _. (i, f)
      | Equal ↦ λ is. (subst (λ n. IsHeld base h n at) (sym (same_key c e.0 (ap is_eq is))) i, f.1)
      | Greater ↦ λ _. (f.0, put_held base h held c at i f.1)
    ] refl

pub gone_held : (base : ℕ) (h : History) (held : List (ℕ × ℕ)) (c : ℕ) → AreHeld base h held → AreHeld base h (remove_entry (is_at (nat_cmp c)) held)
gone_held base h [] c f = tt
gone_held base h (e ∷ held) c f = elim (is_at (nat_cmp c) e.0) as (λ t. AreHeld base h (cond t held (e ∷ remove_entry (is_at (nat_cmp c)) held))) [ true ↦ f.1 | false ↦ (f.0, gone_held base h held c f.1) ]

same_some : (x y : ℕ) → Some x ≡ Some y → x ≡ y
same_some x y e = cc

pub held_there : (base : ℕ) (h : History) (held : List (ℕ × ℕ)) (c at : ℕ) → AreHeld base h held → held_for c held ≡ Some at → IsHeld base h c at
held_there base h [] c at f e = absurd (true≢false (sym (ap is_some e)))
held_there base h (e ∷ held) c at f is =
    elim (is_at (nat_cmp c) e.0) as (λ t. is_at (nat_cmp c) e.0 ≡ t → cond t (Some e.1) (held_for c held) ≡ Some at → IsHeld base h c at) [
      | true ↦ λ key here. subst (λ n. IsHeld base h n at) (same_key c e.0 key) (subst (λ n. IsHeld base h e.0 n) (same_some e.1 at here) f.0)
      | false ↦ λ _ further. held_there base h held c at f.1 further
    ] refl is
