-- The effect of each step of the lock on a view, and what it reports to its pass.
use Rattle.std.specs.Prelude.{◌≡◌, ◌≢◌, ℕ, ◌+◌, ◌-◌, ◌<◌, ◌≤◌, ◌^◌, cond, nat_lt, Option, Some, None, List, [], ◌∷◌, ◌++◌, length}
use mathlib.Core.List.{IsPrefix}
use Rattle.atomic_table.specs.Table.{Me, Step, rest}
use Rattle.turn_lock.specs.declared.view.Stage.{Stage}
use Rattle.turn_lock.specs.declared.view.Stage.TheVariants.{Idle, Waiting, Turn}
use Rattle.turn_lock.specs.declared.view.PassState.{PassState}
use Rattle.turn_lock.specs.Positions.{positions_between, end_of}
use Rattle.turn_lock.specs.Pass.{longer, either, found_at, found_closed_at, StaysClosed}

-- the shorter of two lists, or the second if neither is longer
abbrev pub shorter : {E : Type 0} → List E → List E → List E
shorter xs ys = cond (nat_lt (length xs) (length ys)) xs ys

module _ {B E : Type 0} where
  -- the first pass: all shares, the base and the events of the value
  abbrev pub fresh : ℕ → B → List E → Option E → PassState B E
  fresh n b xs c =
      record {
        stage = Idle;
        shares = n;
        base = Some b;
        seen = xs;
        shut = c;
        made = [];
        other_base = Some b;
        other_seen = [];
        other_shut = None;
      }

  -- the view of a pass that was joined into another
  abbrev pub spent : PassState B E
  spent =
      record {
        stage = Idle;
        shares = 0;
        base = None;
        seen = [];
        shut = None;
        made = [];
        other_base = None;
        other_seen = [];
        other_shut = None;
      }

  abbrev pub at_stage : Stage E → PassState B E → PassState B E
  at_stage g k = record k { stage = g }

  -- the seat waits with ticket t
  abbrev pub waiting_with : {S : Type 0} → ℕ → Me S (PassState B E) → Me S (PassState B E)
  waiting_with t m = (at_stage (Waiting t) m.0, m.1)

  -- the seat has the turn by ticket t, and has taken the value out
  abbrev pub IsInTurn : {S : Type 0} → ℕ → Me (Option S) (PassState B E) → Type 0
  IsInTurn t m =
      (m.0.stage ≡ Turn t (found_at m.0.stage) (found_closed_at m.0.stage)) × (m.1 ≡ (0, None) ∷ [])
      × (0 < m.0.shares) × (t + 1 < 2 ^ 64)

  -- the pass has published the events xs over a base that ends at p, after its turn found the events ys
  abbrev pub published : ℕ → ℕ → List E → List E → Option E → PassState B E → PassState B E
  published t p ys xs c k =
      record k
      { stage = Turn t xs c; seen = xs; shut = c; made = k.made ++ positions_between (end_of p ys) (end_of p xs) }

  abbrev pub left_with : ℕ → PassState B E → PassState B E
  left_with n k = record k { shares = k.shares - n }

  abbrev pub given : ℕ → PassState B E → PassState B E
  given n k =
      record {
        stage = Idle;
        shares = n;
        base = k.base;
        seen = k.seen;
        shut = k.shut;
        made = [];
        other_base = k.base;
        other_seen = [];
        other_shut = None;
      }

  -- what closed the value, if the view with the shorter list has seen it closed
  abbrev pub shorter_shut : PassState B E → PassState B E → Option E
  shorter_shut k l = cond (nat_lt (length k.seen) (length l.seen)) k.shut l.shut

  -- what closed the value, if one of the two has seen it closed; the longer list comes first
  abbrev pub joined_shut : PassState B E → PassState B E → Option E
  joined_shut k l = cond (nat_lt (length k.seen) (length l.seen)) (either l.shut k.shut) (either k.shut l.shut)

  -- one view of two. It keeps the other's base and the shorter list, which the next step checks
  abbrev pub joined : PassState B E → PassState B E → PassState B E
  joined k l =
      record {
        stage = Idle;
        shares = k.shares + l.shares;
        base = k.base;
        seen = longer k.seen l.seen;
        shut = joined_shut k l;
        made = k.made ++ l.made;
        other_base = l.base;
        other_seen = shorter k.seen l.seen;
        other_shut = shorter_shut k l;
      }

  -- a draw takes the ticket if the word is still the expected one
  abbrev pub Draws : {S : Type 0} → Step S → Me S (PassState B E) → ℕ → Me S (PassState B E) → Type 0
  Draws s m found n = (found ≡ s.first → n ≡ waiting_with s.first m) × (found ≢ s.first → n ≡ m)

  -- a count reports that the shares fit a u32, that the two bases were equal, and that the longer list begins with the
  -- shorter one. If the value of the shorter list was closed, that list is as long, and closed by the same entry
  pub record IsCounted (k : PassState B E) : Type 0 where
    pub fits : k.shares < 2 ^ 32
    pub one_base : k.other_base ≡ k.base
    pub begins : length k.other_seen ≤ length k.seen → IsPrefix k.other_seen k.seen
    pub stays :
        (e : E) → k.other_shut ≡ Some e → length k.other_seen ≤ length k.seen
        → (k.seen ≡ k.other_seen) × (k.shut ≡ Some e)

  abbrev pub Counts : {S : Type 0} → Step S → Me S (PassState B E) → ℕ → Me S (PassState B E) → Type 0
  Counts s m found n = (n ≡ m) × IsCounted m.0

  -- the turn is over, and the value is back
  abbrev pub Advances : {S : Type 0} → Step S → Me S (PassState B E) → ℕ → Me S (PassState B E) → Type 0
  Advances s m found n = n ≡ (at_stage Idle m.0, rest m.1)

module _ {V B E : Type 0} (base : V → B) (events : V → List E) (closed : V → Option E) where
  -- the turn by ticket t, in which the value v was found
  pub record Found (t : ℕ) (m n : Me (Option V) (PassState B E)) (v : V) : Type 0 where
    pub after : n ≡ (at_stage (Turn t (events v) (closed v)) m.0, (0, Some v) ∷ m.1)
    pub one_base : m.0.base ≡ Some (base v)
    pub begins : IsPrefix m.0.seen (events v)
    pub stays : StaysClosed m.0.shut m.0.seen (closed v) (events v)

  -- a look finds the turn if the word is the ticket
  abbrev pub LooksAt : Stage E → Me (Option V) (PassState B E) → ℕ → Me (Option V) (PassState B E) → Type 0
  LooksAt Idle m found n = Unit {0}
  LooksAt (Waiting t) m found n = (found ≡ t → (v : V) × Found t m n v) × (found ≢ t → n ≡ m)
  LooksAt (Turn t xs c) m found n = Unit {0}

  abbrev pub Looks : Step (Option V) → Me (Option V) (PassState B E) → ℕ → Me (Option V) (PassState B E) → Type 0
  Looks s m found n = LooksAt m.0.stage m found n

module _ {V B E : Type 0} (base : V → B) (first : B → ℕ) (events : V → List E) (closed : V → Option E) where
  -- the value that is out becomes what the pass has seen
  abbrev pub PostsAt : Stage E → List (ℕ × Option V) → Me (Option V) (PassState B E) → Me (Option V) (PassState B E) → Type 0
  PostsAt Idle taken m n = Unit {0}
  PostsAt (Waiting t) taken m n = Unit {0}
  PostsAt (Turn t xs c) [] m n = Unit {0}
  PostsAt (Turn t xs c) ((i, None) ∷ taken) m n = Unit {0}
  PostsAt (Turn t xs c) ((i, Some v) ∷ taken) m n = n ≡ (published t (first (base v)) xs (events v) (closed v) m.0, m.1)

  abbrev pub Posts : Step (Option V) → Me (Option V) (PassState B E) → ℕ → Me (Option V) (PassState B E) → Type 0
  Posts s m found n = PostsAt m.0.stage m.1 m n
