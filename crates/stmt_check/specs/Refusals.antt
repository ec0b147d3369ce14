-- Refusals in the order of the checks.
use Rattle.std.specs.Prelude.{ℕ, suc, Bool, true, false, not, nat_le, List, Option, Some, None, if◌then◌else◌, is_none}
use Rattle.ts_model.specs.Numbers.{no_relation, name_taken, not_hypertable, too_many, not_aggregate}
use Rattle.ts_model.specs.Limits.{most_relations}
use Rattle.ts_model.specs.declared.outcomes.Refusal.{Refusal}
use Rattle.ts_model.specs.declared.rosters.Roster.{Roster}
use Rattle.ts_catalog.specs.declared.relations.Found.{Found}
use Rattle.ts_catalog.specs.declared.relations.Found.TheVariants as found
use Rattle.ts_catalog.specs.Relations.{found_in}

infixr 4 ◌⊳◌
-- a, or b if a is nothing: what is checked first is refused first
abbrev pub ◌⊳◌ : Option Refusal → Option Refusal → Option Refusal
None ⊳ b = b
(Some r) ⊳ b = Some r

-- the refusal with this number and mark, if something is wrong
abbrev pub marked_refusal : ℕ → ℕ → ℕ → Bool → Option Refusal
marked_refusal pos code mark wrong = if wrong then Some (record { code = code; pos = pos; mark = mark }) else None

-- the refusal with this number, if something is wrong
abbrev pub refusal_if : ℕ → ℕ → Bool → Option Refusal
refusal_if pos code wrong = marked_refusal pos code 0 wrong

-- something that must exist but doesn't
abbrev pub refusal_if_none : {T : Type 0} → ℕ → ℕ → Option T → Option Refusal
refusal_if_none pos code o = refusal_if pos code (is_none o)

-- no relation was found
abbrev pub finds_nothing : Found → Bool
finds_nothing found.None = true
finds_nothing (found.Plain n) = false
finds_nothing (found.Hyper n) = false
finds_nothing (found.View n) = false

-- a relation to be created has a new name, and its kind hasn't reached its limit
abbrev pub name_refusal : ℕ → Roster → List ℕ → ℕ → Option Refusal
name_refusal pos roster name there =
    refusal_if pos name_taken (not (finds_nothing (found_in roster name)))
    ⊳ marked_refusal pos too_many (suc most_relations) (nat_le most_relations there)

-- the refusal if a hypertable is needed: the name refers to nothing, or to something else
abbrev pub hypertable_refusal : ℕ → Found → Option Refusal
hypertable_refusal pos found.None = refusal_if pos no_relation true
hypertable_refusal pos (found.Plain n) = refusal_if pos not_hypertable true
hypertable_refusal pos (found.Hyper n) = None
hypertable_refusal pos (found.View n) = refusal_if pos not_hypertable true

-- the refusal if a table will become a hypertable: the name refers to nothing, to an aggregate, or to a
-- hypertable
abbrev pub plain_refusal : ℕ → Found → Option Refusal
plain_refusal pos found.None = refusal_if pos no_relation true
plain_refusal pos (found.Plain n) = None
plain_refusal pos (found.Hyper n) = refusal_if pos name_taken true
plain_refusal pos (found.View n) = refusal_if pos not_hypertable true

-- the refusal if an aggregate is needed
abbrev pub view_refusal : ℕ → Found → Option Refusal
view_refusal pos found.None = refusal_if pos no_relation true
view_refusal pos (found.Plain n) = refusal_if pos not_aggregate true
view_refusal pos (found.Hyper n) = refusal_if pos not_aggregate true
view_refusal pos (found.View n) = None

-- the refusal if something that can be queried is needed
abbrev pub query_refusal : ℕ → Found → Option Refusal
query_refusal pos found.None = refusal_if pos no_relation true
query_refusal pos (found.Plain n) = refusal_if pos not_hypertable true
query_refusal pos (found.Hyper n) = None
query_refusal pos (found.View n) = None

-- the number of what was found
abbrev pub number_of : Found → ℕ
number_of found.None = 0
number_of (found.Plain n) = n
number_of (found.Hyper n) = n
number_of (found.View n) = n
