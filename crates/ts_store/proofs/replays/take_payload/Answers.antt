use Rattle.std.proofs.Common.{List, ℕ, sym, subst}
use Rattle.ts_store.specs.Takes.{Takes}
use Rattle.ts_store.proofs.replays.take_payload.Goals as goal

pub returns-in-Event : goal.returns-in-Event
returns-in-Event g c = record { taken = subst (λ (payload : List ℕ). Takes c.take_event.result payload (g.T.Follower.past c.args.follower.now) (g.T.Follower.past c.take_event.new.follower)) (sym c.in-Event.ensures.spelled) c.take_event.ensures.taken }

pub returns-in-BadEvent : goal.returns-in-BadEvent
returns-in-BadEvent g c = record { taken = λ event next. c.in-BadEvent.ensures.no_event event next.formed next.spelled }
