-- The events that create the roster of an image, one by one.
use Rattle.std.specs.Prelude.{suc, Bool, true, false, ◌&&◌, not, ◌==◌, cond, List, length, Option, Some, None}
use Rattle.ts_model.specs.declared.events.Event.{Event}
use Rattle.ts_model.specs.declared.events.Event.TheVariants.{Table, Hyper, View, Mode, Commit, Cut, Built}
use Rattle.ts_model.specs.declared.rosters.Roster.{Roster}
use Rattle.ts_model.specs.Roster.{no_relations, roster_over}
use Rattle.ts_model.specs.Valid.{make_relations, make_views, may_follow}

-- an event creates an aggregate
abbrev pub is_view : Event → Bool
is_view (Table def) = false
is_view (Hyper t hyper) = false
is_view (View def) = true
is_view (Mode v only) = false
is_view (Commit ops) = false
is_view (Cut v span) = false
is_view (Built cut snap) = false

-- an event may come next, given whether aggregates have begun
abbrev pub may_come : Roster → Bool → Event → Bool
may_come r begun (Table def) = not begun && may_follow r (Table def)
may_come r begun (Hyper t hyper) = not begun && (suc t == length r.tables) && may_follow r (Hyper t hyper)
may_come r begun (View def) = may_follow r (View def)
may_come r begun (Mode v only) = false
may_come r begun (Commit ops) = false
may_come r begun (Cut v span) = false
may_come r begun (Built cut snap) = false

-- the rest of the events, given whether aggregates have begun
abbrev pub make_rest : Bool → Roster → List Event → Bool
make_rest false r es = make_relations r es
make_rest true r es = make_views r es

-- the roster that events create, if they are those of an image
abbrev pub made_roster : List Event → Option Roster
made_roster es = cond (make_relations no_relations es) (Some (roster_over no_relations es)) None
