-- A call that appends an event, of any kind.
use Rattle.std.specs.Prelude.{Option, Some, None}
use Rattle.ts_model.specs.declared.events.Event.{Event}
use Rattle.ts_model.specs.declared.outcomes.Committed.{Committed}
use Rattle.ts_model.specs.declared.outcomes.Outcome.{Outcome}
use Rattle.ts_model.specs.declared.outcomes.Outcome.TheVariants.{Done, Refused, DiskFault, NoMemory}
use Rattle.ts_model.specs.declared.outcomes.Refusal.{Refusal}
use Rattle.ts_model.specs.History.{History}
use Rattle.ts_model.specs.Calls.{Act, refuses, returns, makes, act_of_event}
use Rattle.event_check.specs.Checks.{call_refusal}
use Rattle.engine_core.specs.Effects.{effect_of}

-- the refusal if there is one, otherwise this
abbrev pub unless : {A : Type 0} → Option Refusal → Act A → Act A
unless (Some r) act = refuses r
unless None act = act

-- the event is appended and its effect answered, unless the call is refused
abbrev pub making_event : Event → History → Act Committed
making_event e h = unless (call_refusal h e) (act_of_event h e (effect_of h e))

-- the same act, with another answer
abbrev pub with_answer : {A B : Type 0} → (A → B) → Act A → Act B
with_answer f (refuses r) = refuses r
with_answer f (returns a) = returns (f a)
with_answer f (makes e a) = makes e (f a)

-- the same outcome, with another answer
abbrev pub outcome_as : {A B : Type 0} → (A → B) → Outcome A → Outcome B
outcome_as f (Done a) = Done (f a)
outcome_as f (Refused r) = Refused r
outcome_as f DiskFault = DiskFault
outcome_as f NoMemory = NoMemory
