use Rattle.std.proofs.Common.{sym, ◌∙◌}
use Rattle.refresh_list.proofs.PlaceLaws.{pending_none, pending_some}
use Rattle.refresh_list.proofs.lists.Refreshes.pending.Goals as goal

pub returns-in-None : goal.returns-in-None
returns-in-None c = record { pending = sym (pending_none c.args.cut c.args.self.now (sym c.find.ensures.found ∙ c.in-None.is)) }

pub returns-in-Some : goal.returns-in-Some
returns-in-Some c = record { pending = c.state_of.ensures ∙ sym (pending_some c.args.cut c.args.self.now c.in-Some.refresh (sym c.find.ensures.found ∙ c.in-Some.is)) }
