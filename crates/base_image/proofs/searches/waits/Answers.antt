use Rattle.base_image.proofs.Searching.{found_none, found_there, cuts_searched}
use Rattle.base_image.proofs.searches.waits.Goals as goal

pub returns-in-Some : goal.returns-in-Some
returns-in-Some c = found_there _ _ c.args.waiting.now c.cuts_below.result c.in-Some.refresh.now (cuts_searched c.args.cut c.args.waiting.now c.requires.rising) c.cuts_below.ensures.place c.in-Some.ensures.lookup.0 c.in-Some.ensures.lookup.1

pub returns-in-None : goal.returns-in-None
returns-in-None c = found_none _ _ c.args.waiting.now c.cuts_below.result (cuts_searched c.args.cut c.args.waiting.now c.requires.rising) c.cuts_below.ensures.place c.in-None.ensures.lookup.0
