-- What workers have done is true for each pass that has seen more.
use Rattle.std.proofs.Common.{◌≡◌, ℕ, Bool, false, List, [], ◌∷◌, Some, ap, ◌∙◌}
use mathlib.Core.List.{IsPrefix}
use Rattle.ts_model.specs.History.{◌▸▸◌, Begins}
use Rattle.ts_model.specs.States.{State}
use Rattle.ts_model.proofs.HistoryLaws.{begins_trans}
use Rattle.turn_lock.specs.Pass.{seen_of}
use Rattle.shared_store.specs.Stores.{Shared, Ticket, history_of}
use Rattle.shared_store.proofs.AfterLaws.{begins_longer}
use Rattle.par_workers.specs.Slots.{Knows}
use Rattle.par_workers.specs.Outcomes.{Outcome, AllOutcomes}

module _ {B : Type 0} (state : B → State) (store : Shared B) where
  -- the histories of two passes, of which the second has seen more
  pub begins_seen : (a b : Ticket B) → IsPrefix (seen_of a) (seen_of b) → Begins (history_of state store a) (history_of state store b)
  begins_seen a b p = begins_longer (state store.opened.value).history (seen_of a) (seen_of b) p

  pub outcome_on : (Did : State → State → Type 0) (start end whole : Ticket B) (made : List ℕ) → Knows whole end → Outcome state store Did start end made → Outcome state store Did start whole made
  outcome_on Did start end whole made knows o = record {
    left = o.left;
    did = o.did;
    begins = begins_trans o.begins (begins_seen end whole knows.0);
    stops = λ e is.
        let was = o.stops e is in
        let now = knows.1 e was.0 in
        (now.0, ap (λ es. (state store.opened.value).history ▸▸ es) now.1 ∙ was.1);
    makes = o.makes;
  }

  pub outcomes_on : {W : Type 0} (did : Bool → W → State → W → State → Type 0) (start end whole : Ticket B) (olds news : List W) (made : List ℕ) → Knows whole end → AllOutcomes state store did start end olds news made → AllOutcomes state store did start whole olds news made
  outcomes_on did start end whole [] [] made knows os = os
  outcomes_on did start end whole [] (new ∷ news) made knows os = os
  outcomes_on did start end whole (old ∷ olds) [] made knows os = os
  outcomes_on did start end whole (old ∷ olds) (new ∷ news) made knows os = record {
    mine = os.mine;
    others = os.others;
    one = outcome_on (λ s t. did false old s new t) start end whole os.mine knows os.one;
    rest = outcomes_on did start end whole olds news os.others knows os.rest;
    all = os.all;
  }
