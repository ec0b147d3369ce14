-- The effect of one more event.
use Rattle.std.specs.Prelude.{◌≡◌, suc, true}
use Rattle.ts_model.specs.declared.events.Event.{Event}
use Rattle.ts_model.specs.declared.events.Event.TheVariants.{Table, Hyper, View, Mode, Commit, Cut, Built}
use Rattle.ts_model.specs.declared.outcomes.Committed.{Committed}
use Rattle.ts_model.specs.History.{History, ◌▸◌, position}
use Rattle.ts_model.specs.Allowed.{allowed}
use Rattle.ts_model.specs.Calls.{commit_result}
use Rattle.engine_state.specs.Stands.{StandsFor}
use Rattle.engine_state.specs.Afters.{CountsAre}
use Rattle.engine_core.specs.Values.{PreparedValue}

-- an event that moves no rows
abbrev pub moves_none : History → Committed
moves_none h = record { pos = suc (position h); inserted = 0; removed = 0 }

-- the effect of an event over all tables: a commit moves rows, and every other event none
abbrev pub effect_of : History → Event → Committed
effect_of h (Table def) = moves_none h
effect_of h (Hyper t hyper) = moves_none h
effect_of h (View def) = moves_none h
effect_of h (Mode v only) = moves_none h
effect_of h (Commit ops) = commit_result ops h
effect_of h (Cut v span) = moves_none h
effect_of h (Built cut snap) = moves_none h

-- it was prepared for this history: its event is allowed next, and its state represents the history with the event
pub record IsPreparedFor (h : History) (p : PreparedValue) : Type 0 where
  pub allowed : allowed h p.event ≡ true
  pub stands : StandsFor (h ▸ p.event) p.moment.state
  pub counts : CountsAre h p.event p.moment.inserted p.moment.removed
