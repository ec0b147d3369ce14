-- The rows of an image from which the groups of its aggregates are recomputed, and the number of rows that this
-- reads.
use Rattle.std.specs.Prelude.{◌≡◌, ℕ, ◌+◌, Bool, true, false, ◌||◌, ◌&&◌, not, cond, ◌==◌, List, [], ◌∷◌, ◌++◌, length, Option, Some, None}
use Rattle.ts_schema.specs.declared.rows.Row.{Row}
use Rattle.partial_agg.specs.declared.groups.Group.{Group}
use Rattle.ts_model.specs.declared.events.Event.{Event}
use Rattle.ts_model.specs.declared.events.Event.TheVariants.{Commit}
use Rattle.ts_model.specs.declared.events.Op.{Op}
use Rattle.ts_model.specs.declared.events.Op.TheVariants.{Insert, Delete}
use Rattle.ts_model.specs.declared.images.Image.{Image}
use Rattle.ts_model.specs.declared.images.SavedView.{SavedView}
use Rattle.ts_model.specs.declared.views.ViewDef.{ViewDef}
use Rattle.ts_model.specs.Groups.{groups_of}
use Rattle.ts_model.specs.Saved.{appended_over, saved_view}
use Rattle.ts_model.specs.Valid.{image_roster}
use Rattle.group_fold.specs.Foldings.{HasTaken}
use Rattle.engine_state.specs.declared.group_rebuilds.GroupRebuild.{GroupRebuild}

-- ---- how many rows are read

-- of an operation: the rows that it inserts, if its table passes a test
abbrev pub op_reads : (ℕ → Bool) → Op → ℕ
op_reads test (Insert t new) = cond (test t) (length new) 0
op_reads test (Delete t tests) = 0

-- of an event: those of its one operation
abbrev pub event_reads : (ℕ → Bool) → Event → ℕ
event_reads test (Commit (op ∷ [])) = op_reads test op
event_reads test e = 0

abbrev pub events_read : (ℕ → Bool) → List Event → ℕ
events_read test [] = 0
events_read test (e ∷ es) = event_reads test e + events_read test es

-- an aggregate was refreshed
abbrev pub was_refreshed : SavedView → Bool
was_refreshed kept = not (length kept.lasts == 0)

-- one of these aggregates is over table t and was refreshed
abbrev pub feeds : ℕ → List ViewDef → List SavedView → Bool
feeds t [] kept = false
feeds t (def ∷ defs) [] = false
feeds t (def ∷ defs) (v ∷ vs) = (was_refreshed v && t == def.table) || feeds t defs vs

-- of an image: the rows that it holds for each table over which an aggregate was refreshed, each row once
abbrev pub rows_refolded : Image → ℕ
rows_refolded i = events_read (λ t. feeds t (image_roster i).views i.views) i.rows

-- ---- groups under construction

-- these rows are of table t
abbrev pub rows_of : ℕ → List Row → ℕ → List Row
rows_of t rows u = cond (t == u) rows []

-- more rows can be added to them: some rows were added so far
abbrev pub CanTake : Option GroupRebuild → Type 0
CanTake None = Unit {0}
CanTake (Some r) = (rows : List Row) × HasTaken r.plan rows r.folding

-- the rows of their table were added to them
pub record TakesMore (rows : ℕ → List Row) (old new : GroupRebuild) : Type 0 where
  pub table_is : new.table ≡ old.table
  pub plan_is : new.plan ≡ old.plan
  pub taken :
      (before : List Row) → HasTaken old.plan before old.folding
      → HasTaken new.plan (before ++ rows old.table) new.folding

abbrev pub TakesBy : (ℕ → List Row) → Option GroupRebuild → Option GroupRebuild → Type 0
TakesBy rows None None = Unit {0}
TakesBy rows None (Some new) = ⊥
TakesBy rows (Some old) None = ⊥
TakesBy rows (Some old) (Some new) = TakesMore rows old new

-- they are of an aggregate over table t
abbrev pub is_over : ℕ → Option GroupRebuild → Bool
is_over t None = false
is_over t (Some r) = t == r.table

-- they are those of an aggregate, of these rows of its table
pub record Refolds (rows : ℕ → List Row) (def : ViewDef) (r : GroupRebuild) : Type 0 where
  pub table_is : r.table ≡ def.table
  pub plan_is : r.plan ≡ def.fold
  pub taken : HasTaken r.plan (rows def.table) r.folding

-- an aggregate has groups under construction if and only if it was refreshed
abbrev pub IsRefoldOf : (ℕ → List Row) → ViewDef → SavedView → Option GroupRebuild → Type 0
IsRefoldOf rows def kept None = was_refreshed kept ≡ false
IsRefoldOf rows def kept (Some r) = (was_refreshed kept ≡ true) × Refolds rows def r

abbrev pub AreRefolds : Image → (ℕ → List Row) → ℕ → ViewDef → Option GroupRebuild → Type 0
AreRefolds i rows n def r = IsRefoldOf rows def (saved_view n i) r

-- ---- finished groups

-- they are the groups of all rows that were added
abbrev pub Makes : Option GroupRebuild → List Group → Type 0
Makes None groups = groups ≡ []
Makes (Some r) groups = (rows : List Row) → HasTaken r.plan rows r.folding → groups ≡ groups_of r.plan rows

-- if an aggregate was refreshed, they are the groups of all rows that an image holds of its table; otherwise none
abbrev pub IsRefolded : Image → ViewDef → SavedView → List Group → Type 0
IsRefolded i def kept groups =
    groups ≡ cond (was_refreshed kept) (groups_of def.fold (appended_over def.table i.rows)) []

abbrev pub AreRefolded : Image → ℕ → ViewDef → List Group → Type 0
AreRefolded i n def groups = IsRefolded i def (saved_view n i) groups
