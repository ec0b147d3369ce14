-- What an unrefused statement requests: an event that may come next, a window of an aggregate, or a query that
-- can be asked.
use Rattle.std.specs.Prelude.{◌≡◌, ℕ, ◌+◌, ◌*◌, ◌<◌, ◌≤◌, ℤ, List, [], ◌∷◌, ◌++◌, length, sum_by, Option, Some, None, option_map, IsTrue, IsSome, true}
use Rattle.std.specs.List.{list_all}
use Rattle.std.specs.Option.{ForSome}
use Rattle.ts_bucket.specs.Bucket.{IsWidth, is_time}
use Rattle.ts_model.specs.declared.events.Event.{Event}
use Rattle.ts_model.specs.declared.events.Event.TheVariants as events
use Rattle.ts_model.specs.declared.events.Op.{Op}
use Rattle.ts_model.specs.declared.views.ViewDef.{ViewDef}
use Rattle.ts_model.specs.History.{History, Begins}
use Rattle.ts_model.specs.declared.queries.Query.TheVariants.{Buckets}
use Rattle.ts_model.specs.declared.views.Fold.{Fold}
use Rattle.ts_model.specs.Limits.{most_columns}
use Rattle.ts_model.specs.Roster.{roster, hyper_of, view_of}
use Rattle.ts_model.specs.Allowed.{all_allowed}
use Rattle.ts_model.specs.Answers.{can_ask, columns_are_there}
use Rattle.ts_model.specs.Bytes.{op_bytes}
use Rattle.ts_model.specs.Sound.{op_fits, sound}
use Rattle.ts_model.specs.Timely.{timely_at}
use Rattle.stmt_syntax.specs.Limits.{longest_line, longest_input}
use Rattle.stmt_syntax.specs.Written.{IsWritten}
use Rattle.stmt_syntax.specs.declared.statements.Stmt.{Stmt}
use Rattle.stmt_check.specs.declared.actions.Action.{Action}
use Rattle.stmt_check.specs.declared.actions.Action.TheVariants as actions
use Rattle.stmt_check.specs.Check.{IsNumbered, action_of, refusal_of}
use Rattle.stmt_check.specs.Folds.{is_unit}

-- an event may come next
pub record MayCome (h : History) (e : Event) : Type 0 where
  pub is_sound : IsTrue (sound h e)
  pub is_timely : IsTrue (timely_at h e)

-- an aggregate may be created, and its width is in range
pub record MayBeMade (h : History) (def : ViewDef) : Type 0 where
  pub event : MayCome h (events.View def)
  pub width : IsWidth def.fold.width

-- an operation may be committed, and takes at most 8 bytes for each of these
pub record IsOperation (h : History) (bytes : ℕ) (op : Op) : Type 0 where
  pub event : MayCome h (events.Commit (op ∷ []))
  pub fits : IsTrue (op_fits (roster h) op)
  pub size : op_bytes op ≤ 8 * bytes

-- a window of an existing aggregate
pub record IsWindow (h : History) (view : ℕ) (lo hi : Option ℤ) : Type 0 where
  pub there : IsSome (view_of (roster h) view)
  pub low : ForSome lo (λ t. IsTrue (is_time t))
  pub high : ForSome hi (λ t. IsTrue (is_time t))

-- a grouping by buckets of the calendar can be asked: it is of a hypertable with this time column, on existing
-- columns
pub record IsCalendar (h : History) (table number : ℕ) (unit : List ℕ) (at : ℕ) (fold : Fold) : Type 0 where
  pub in_range : (1 ≤ number) × (number ≤ 1200)
  pub known : IsTrue (is_unit unit)
  pub place : option_map (λ hyper. hyper.at) (hyper_of (roster h) table) ≡ Some at
  pub query : IsTrue (can_ask (roster h) (Buckets table fold))
  pub columns : IsTrue (columns_are_there most_columns fold)

-- what an action from a text of this many bytes requests can be done at a history
abbrev pub IsSound : History → ℕ → Action → Type 0
IsSound h bytes (actions.Table def) = MayCome h (events.Table def)
IsSound h bytes (actions.Hyper table hyper) = MayCome h (events.Hyper table hyper)
IsSound h bytes (actions.View def filled) = MayBeMade h def
IsSound h bytes (actions.Mode view only) = MayCome h (events.Mode view only)
IsSound h bytes (actions.Change op) = IsOperation h bytes op
IsSound h bytes (actions.Refresh view lo hi) = IsWindow h view lo hi
IsSound h bytes (actions.Cut view lo hi) = IsWindow h view lo hi
IsSound h bytes (actions.Snap cut) = Unit {0}
IsSound h bytes (actions.Finish cut) = Unit {0}
IsSound h bytes actions.Begin = Unit {0}
IsSound h bytes actions.BeginRead = Unit {0}
IsSound h bytes actions.Commit = Unit {0}
IsSound h bytes actions.Rollback = Unit {0}
IsSound h bytes (actions.Calendar table number unit at fold) = IsCalendar h table number unit at fold
IsSound h bytes (actions.Ask query) = IsTrue (can_ask (roster h) query)

-- a statement of a text of at most 65,536 bytes that isn't refused at an allowed history requests something
-- sound there
abbrev pub ActionsAreSound : Type 0
ActionsAreSound =
    (h : History) (pos bytes : ℕ) (s : Stmt) → all_allowed h ≡ true → IsWritten bytes s → bytes ≤ longest_line
    → refusal_of pos (roster h) s ≡ None → IsSound h bytes (action_of (roster h) s)

-- statements can be checked against the roster of an allowed history
abbrev pub RostersAreNumbered : Type 0
RostersAreNumbered = (h : History) → all_allowed h ≡ true → IsNumbered (roster h)

-- ---- queues

-- operations that may be committed together, from texts of this many bytes
pub record IsQueue (h : History) (bytes : ℕ) (ops : List Op) : Type 0 where
  pub fits : IsTrue (list_all (op_fits (roster h)) ops)
  pub size : sum_by op_bytes ops ≤ 8 * bytes

-- a queue is empty at first, accepts one more operation, and stays valid as a history grows; it can be
-- committed while its texts have at most 2 ^ 26 bytes
pub record QueuesAreSound : Type 0 where
  pub begins : (h : History) → IsQueue h 0 []
  pub grows : (h : History) (bytes more : ℕ) (ops : List Op) (op : Op) → IsQueue h bytes ops → IsOperation h more op
      → IsQueue h (bytes + more) (ops ++ op ∷ [])
  pub stays : (g h : History) (bytes : ℕ) (ops : List Op) → Begins g h → bytes ≤ longest_input → IsQueue g bytes ops
      → IsQueue h bytes ops
  pub commits : (h : History) (bytes : ℕ) (ops : List Op) → IsQueue h bytes ops → 0 < length ops → bytes ≤ longest_input
      → MayCome h (events.Commit ops)
