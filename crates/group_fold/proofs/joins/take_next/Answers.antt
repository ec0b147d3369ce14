use Rattle.std.proofs.Common.{sym, ◌∙◌}
use Rattle.group_fold.proofs.Merges.{mine_taken, theirs_taken}
use Rattle.group_fold.proofs.joins.take_next.Goals as goal

pub returns-in-Mine-clause-next : goal.returns-in-Mine-clause-next
returns-in-Mine-clause-next c =
    (mine_taken c.pop_front.result c.args.mine.now.items c.pop_front.new.self.items c.args.theirs.now.items c.pop_front.ensures.items c.pop_front.ensures.rest (sym c.next_of.ensures ∙ c.in-Mine.is) c.requires).next

pub returns-in-Mine-clause-kept : goal.returns-in-Mine-clause-kept
returns-in-Mine-clause-kept c =
    (mine_taken c.pop_front.result c.args.mine.now.items c.pop_front.new.self.items c.args.theirs.now.items c.pop_front.ensures.items c.pop_front.ensures.rest (sym c.next_of.ensures ∙ c.in-Mine.is) c.requires).kept

pub returns-in-Theirs-clause-next : goal.returns-in-Theirs-clause-next
returns-in-Theirs-clause-next c =
    (theirs_taken c.pop_front-in-Theirs.result c.args.mine.now.items c.args.theirs.now.items c.pop_front-in-Theirs.new.self.items c.pop_front-in-Theirs.ensures.items c.pop_front-in-Theirs.ensures.rest (sym c.next_of.ensures ∙ c.in-Theirs.is) c.requires).next

pub returns-in-Theirs-clause-kept : goal.returns-in-Theirs-clause-kept
returns-in-Theirs-clause-kept c =
    (theirs_taken c.pop_front-in-Theirs.result c.args.mine.now.items c.args.theirs.now.items c.pop_front-in-Theirs.new.self.items c.pop_front-in-Theirs.ensures.items c.pop_front-in-Theirs.ensures.rest (sym c.next_of.ensures ∙ c.in-Theirs.is) c.requires).kept
