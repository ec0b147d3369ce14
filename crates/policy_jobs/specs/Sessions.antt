-- What contracts see of a session with policies.
use Rattle.ts_model.specs.States.{State}
use Rattle.policy_jobs.specs.declared.sessions.PolicySession.{PolicySession}
use Rattle.policy_jobs.specs.Adding.{AreKept}
use Rattle.policy_jobs.specs.Turns.{PolicyPlaces}

-- its session state, by that of the actor in it
abbrev pub places_in : {A P : Type 0} → (A → P) → PolicySession A → PolicyPlaces P
places_in places s = record { inner = places s.actor; policies = s.policies }

-- what the actor in it holds fits the state of its store, and its policies were valid when they were added
pub record HoldsOf {A : Type 0} (Holds : A → State → Type 0) (session : PolicySession A) (s : State) : Type 0 where
  pub actor : Holds session.actor s
  pub policies : AreKept session.policies
