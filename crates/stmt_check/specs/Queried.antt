-- The relation that a name refers to, if a statement needs one of a certain kind.
use Rattle.std.specs.Prelude.{◌≡◌, ℕ, ◌<◌, length, Some, Result, Ok, Err, ⊤}
use Rattle.ts_model.specs.declared.rosters.Roster.{Roster}
use Rattle.ts_catalog.specs.declared.relations.Found.{Found}
use Rattle.ts_catalog.specs.declared.relations.Found.TheVariants as found
use Rattle.stmt_check.specs.declared.actions.ResolveStop.{ResolveStop}
use Rattle.stmt_check.specs.declared.actions.ResolveStop.TheVariants as stops
use Rattle.stmt_check.specs.declared.relations.QueryTarget.{QueryTarget}
use Rattle.stmt_check.specs.declared.relations.QueryTarget.TheVariants as queried
use Rattle.stmt_check.specs.Refusals.{query_refusal, hypertable_refusal, plain_refusal, view_refusal, number_of}
use Rattle.stmt_check.specs.Results.{Checks}

-- the number of the hypertable that was found, and otherwise the refusal
abbrev pub FindsHypertable : ℕ → Found → Result ℕ ResolveStop → Type 0
FindsHypertable pos f result = Checks (hypertable_refusal pos f) (number_of f) result

-- the number of the plain table that was found, and otherwise the refusal
abbrev pub FindsPlain : ℕ → Found → Result ℕ ResolveStop → Type 0
FindsPlain pos f result = Checks (plain_refusal pos f) (number_of f) result

-- the number of the aggregate that was found, and otherwise the refusal
abbrev pub FindsView : ℕ → Found → Result ℕ ResolveStop → Type 0
FindsView pos f result = Checks (view_refusal pos f) (number_of f) result

-- what can be queried: a hypertable or an aggregate is found with its number, and otherwise the refusal
abbrev pub Finds : ℕ → Found → Result QueryTarget ResolveStop → Type 0
Finds pos f (Ok (queried.Table n)) = f ≡ found.Hyper n
Finds pos f (Ok (queried.View n)) = f ≡ found.View n
Finds pos f (Err (stops.Refused r)) = query_refusal pos f ≡ Some r
Finds pos f (Err stops.NoMemory) = ⊤

-- what can be queried is in the roster
abbrev pub IsInRoster : Roster → QueryTarget → Type 0
IsInRoster roster (queried.Table n) = n < length roster.tables
IsInRoster roster (queried.View n) = n < length roster.views
