use Rattle.std.proofs.Common.{sym, ◌∙◌}
use Rattle.refresh_list.proofs.PlaceLaws.{waits_none, waits_some}
use Rattle.refresh_list.proofs.lists.Refreshes.find_waiting.Goals as goal

pub returns-in-None : goal.returns-in-None
returns-in-None c = record { found = sym (waits_none c.args.cut c.args.self.now (sym c.find.ensures.found ∙ c.in-None.is)) }

pub returns-in-Some : goal.returns-in-Some
returns-in-Some c = record { found = c.as_waiting.ensures ∙ sym (waits_some c.args.cut c.args.self.now c.in-Some.refresh (sym c.find.ensures.found ∙ c.in-Some.is)) }
