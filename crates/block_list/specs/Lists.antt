-- A list in blocks, as contracts see it.
use Rattle.std.specs.Prelude.{ℕ, ◌-◌, min, List, ◌++◌, take, drop, refl}
use Rattle.block_list.specs.Blocks.{block_len}
use Rattle.std.specs.Coded.{Coded, code_by, coded×, coded_ℕ, coded_list}

-- its items in order, and how many more fit
pub record ListValue (X : Type 0) : Type 0 where
  pub items : List X
  pub room : ℕ

abbrev pub list_value_code : {X : Type 0} → Coded X → Coded (ListValue X)
list_value_code {X} x =
    code_by (List X × ℕ) (coded× (coded_list x) coded_ℕ) (λ v. (v.items, v.room))
    (λ p. record { items = p.0; room = p.1 }) (λ _. refl)

-- how many more items fit after this many in a vector of this capacity, up to a whole block
abbrev pub room_of : ℕ → ℕ → ℕ
room_of len capacity = min capacity block_len - len

-- the items of a list, with new ones instead of those from one place on and below another
abbrev pub splice : {X : Type 0} → ℕ → ℕ → List X → List X → List X
splice from to new old = take from old ++ new ++ drop to old
