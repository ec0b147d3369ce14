use Rattle.shared_store.proofs.DeskLaws.{desk_looked, desk_stays, looked_ends}
use Rattle.shared_store.proofs.desk.DeskBackend.snap.Goals as goal

pub end-requires : goal.end-requires
end-requires g c = looked_ends g.B.Backend.alone g.B.Backend.state g.B.Backend.kin _ _ c.begin-held.result c.self.invariant c.begin-held.ensures c.snap-shot.new.self c.snap-shot.ensures.kept c.snap-shot.ensures.looked

pub invariant_of-self : goal.invariant_of-self
invariant_of-self g c = desk_stays g.B.Backend.alone g.B.Backend.state g.B.Backend.kin _ _ c.begin-held.result c.self.invariant c.begin-held.ensures c.snap-shot.new.self c.end.new.pass c.end.result c.snap-shot.ensures.kept c.end.ensures.ended c.end.ensures.backend c.end.ensures.stopped

pub returns-clause-looked : goal.returns-clause-looked
returns-clause-looked g c = desk_looked g.B.Backend.alone g.B.Backend.state g.B.Backend.kin _ _ c.begin-held.result c.self.invariant c.begin-held.ensures c.snap-shot.new.self c.end.new.pass c.end.result c.snap-shot.ensures.kept c.end.ensures.ended c.end.ensures.backend c.self.view_is c.snap-shot.ensures.looked
