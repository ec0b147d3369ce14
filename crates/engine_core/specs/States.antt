-- The state that an engine keeps of its history.
use Rattle.std.specs.Prelude.{◌≡◌, true}
use Rattle.ts_model.specs.History.{History}
use Rattle.ts_model.specs.Allowed.{all_allowed}
use Rattle.engine_state.specs.Stands.{StateValue, StandsFor}

-- a state is that of a history, which is allowed
pub record IsStateOf (h : History) (s : StateValue) : Type 0 where
  pub allowed : all_allowed h ≡ true
  pub stands : StandsFor h s
