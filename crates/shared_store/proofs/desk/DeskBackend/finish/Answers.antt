use Rattle.shared_store.proofs.DeskLaws.{called_ends, desk_called, desk_stays, holds_there}
use Rattle.shared_store.proofs.desk.DeskBackend.finish.Goals as goal

pub finish-outcome-requires : goal.finish-outcome-requires
finish-outcome-requires g c = holds_there g.B.Backend.state _ c.self.view_is (g.B.Shot.Shown.fits c.args.job) (g.met.B.Shot.Shown.fits_on c.args.job) c.begin-held.ensures.begins c.requires

pub end-requires : goal.end-requires
end-requires g c = called_ends g.B.Backend.alone g.B.Backend.state g.B.Backend.kin _ _ c.begin-held.result c.self.invariant c.begin-held.ensures c.finish-outcome.new.self c.finish-outcome.ensures.kept c.finish-outcome.ensures.called

pub invariant_of-self : goal.invariant_of-self
invariant_of-self g c = desk_stays g.B.Backend.alone g.B.Backend.state g.B.Backend.kin _ _ c.begin-held.result c.self.invariant c.begin-held.ensures c.finish-outcome.new.self c.end.new.pass c.end.result c.finish-outcome.ensures.kept c.end.ensures.ended c.end.ensures.backend c.end.ensures.stopped

pub returns-clause-called : goal.returns-clause-called
returns-clause-called g c = desk_called g.B.Backend.alone g.B.Backend.state g.B.Backend.kin _ _ c.begin-held.result c.self.invariant c.begin-held.ensures c.finish-outcome.new.self c.end.new.pass c.end.result c.finish-outcome.ensures.kept c.end.ensures.ended c.end.ensures.backend c.self.view_is c.finish-outcome.ensures.called
