use Rattle.std.specs.Prelude.{IsTrue}
use Rattle.ts_model.specs.declared.events.Event.TheVariants.{Hyper}
use Rattle.ts_model.specs.Sound.{sound}
use Rattle.ts_model.proofs.AllowedLaws.{sound_stays}
use Rattle.shared_store.proofs.DeskLaws.{called_ends, desk_called, desk_stays, holds_there}
use Rattle.shared_store.proofs.desk.DeskBackend.make_hyper.Goals as goal

pub make_hyper-outcome-requires : goal.make_hyper-outcome-requires
make_hyper-outcome-requires g c = holds_there g.B.Backend.state _ c.self.view_is (λ h. IsTrue (sound h (Hyper c.args.table c.args.hyper))) (λ f h. sound_stays f h (Hyper c.args.table c.args.hyper)) c.begin-held.ensures.begins c.requires

pub end-requires : goal.end-requires
end-requires g c = called_ends g.B.Backend.alone g.B.Backend.state g.B.Backend.kin _ _ c.begin-held.result c.self.invariant c.begin-held.ensures c.make_hyper-outcome.new.self c.make_hyper-outcome.ensures.kept c.make_hyper-outcome.ensures.called

pub invariant_of-self : goal.invariant_of-self
invariant_of-self g c = desk_stays g.B.Backend.alone g.B.Backend.state g.B.Backend.kin _ _ c.begin-held.result c.self.invariant c.begin-held.ensures c.make_hyper-outcome.new.self c.end.new.pass c.end.result c.make_hyper-outcome.ensures.kept c.end.ensures.ended c.end.ensures.backend c.end.ensures.stopped

pub returns-clause-called : goal.returns-clause-called
returns-clause-called g c = desk_called g.B.Backend.alone g.B.Backend.state g.B.Backend.kin _ _ c.begin-held.result c.self.invariant c.begin-held.ensures c.make_hyper-outcome.new.self c.end.new.pass c.end.result c.make_hyper-outcome.ensures.kept c.end.ensures.ended c.end.ensures.backend c.self.view_is c.make_hyper-outcome.ensures.called
