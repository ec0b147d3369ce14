-- Events with all the memory that they need.
use Rattle.std.specs.Prelude.{◌≡◌, IsTrue}
use Rattle.ts_model.specs.declared.events.Event.{Event}
use Rattle.ts_model.specs.Allowed.{allowed}
use Rattle.ts_model.specs.History.{History}
use Rattle.event_codec.specs.Formed.{IsFormed}
use Rattle.event_codec.specs.Spelling as spelling
use Rattle.engine_core.specs.Effects.{IsPreparedFor}
use Rattle.ts_store.specs.declared.drafts.FramedEvent.{FramedEvent}

-- an event that may come next after a history is in its frame and prepared
pub record IsDraft (h : History) (e : Event) (draft : FramedEvent) : Type 0 where
  pub event : draft.prepared.event ≡ e
  pub fits : IsTrue (allowed h e)
  pub formed : IsFormed e
  pub framed : draft.frame ≡ spelling.event e
  pub prepared : IsPreparedFor h draft.prepared
