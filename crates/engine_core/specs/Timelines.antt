-- The states of a history at its positions.
use Rattle.std.specs.Prelude.{◌≡◌, ◌≤◌, ℕ, suc, ◌+◌, true, List, length, slice_get, Some}
use Rattle.ts_model.specs.declared.events.Event.{Event}
use Rattle.ts_model.specs.Allowed.{all_allowed, allowed}
use Rattle.ts_model.specs.History.{History, ◌▸◌, base_position, position, prefix}
use Rattle.engine_state.specs.Afters.{CountsAre}
use Rattle.engine_state.specs.Stands.{StateValue, StandsFor}
use Rattle.engine_core.specs.Histories.{history_of}
use Rattle.engine_core.specs.Values.{MomentValue, Past}

-- it is the state of this history
pub record IsMomentOf (h : History) (m : MomentValue) : Type 0 where
  pub stands : StandsFor h m.state
  pub counts : (g : History) (e : Event) → h ≡ g ▸ e → CountsAre g e m.inserted m.removed

-- one state of a history is kept for each position from one on, in order
abbrev pub AreMoments : History → ℕ → List MomentValue → Type 0
AreMoments all start ms = (k : ℕ) (m : MomentValue) → slice_get ms k ≡ Some m → IsMomentOf (prefix all (start + k)) m

-- the value of a timeline in contracts: its image and events, and the first position that it keeps
pub record TimelineValue : Type 0 where
  pub past : Past
  pub start : ℕ

-- the history is allowed and ends at a position, and each position from the first one on is kept
pub record IsTimeline (past : Past) (start end : ℕ) (ms : List MomentValue) : Type 0 where
  pub allowed : all_allowed (history_of past) ≡ true
  pub low : base_position (history_of past) ≤ start
  pub ends : end ≡ position (history_of past)
  pub moments : AreMoments (history_of past) start ms
  pub all : start + length ms ≡ suc end

-- a state represents some history after which an event is allowed
pub record MayFollow (s : StateValue) (e : Event) : Type 0 where
  pub history : History
  pub stands : StandsFor history s
  pub fits : allowed history e ≡ true
