use Rattle.std.specs.Prelude.{IsTrue}
use Rattle.ts_model.specs.declared.events.Event.TheVariants.{Mode}
use Rattle.ts_model.specs.Sound.{sound}
use Rattle.ts_model.proofs.AllowedLaws.{sound_stays}
use Rattle.shared_store.proofs.DeskLaws.{called_ends, desk_called, desk_stays, holds_there}
use Rattle.shared_store.proofs.desk.DeskBackend.set_mode.Goals as goal

pub set_mode-outcome-requires : goal.set_mode-outcome-requires
set_mode-outcome-requires g c = holds_there g.B.Backend.state _ c.self.view_is (λ h. IsTrue (sound h (Mode c.args.view c.args.only))) (λ f h. sound_stays f h (Mode c.args.view c.args.only)) c.begin-held.ensures.begins c.requires

pub end-requires : goal.end-requires
end-requires g c = called_ends g.B.Backend.alone g.B.Backend.state g.B.Backend.kin _ _ c.begin-held.result c.self.invariant c.begin-held.ensures c.set_mode-outcome.new.self c.set_mode-outcome.ensures.kept c.set_mode-outcome.ensures.called

pub invariant_of-self : goal.invariant_of-self
invariant_of-self g c = desk_stays g.B.Backend.alone g.B.Backend.state g.B.Backend.kin _ _ c.begin-held.result c.self.invariant c.begin-held.ensures c.set_mode-outcome.new.self c.end.new.pass c.end.result c.set_mode-outcome.ensures.kept c.end.ensures.ended c.end.ensures.backend c.end.ensures.stopped

pub returns-clause-called : goal.returns-clause-called
returns-clause-called g c = desk_called g.B.Backend.alone g.B.Backend.state g.B.Backend.kin _ _ c.begin-held.result c.self.invariant c.begin-held.ensures c.set_mode-outcome.new.self c.end.new.pass c.end.result c.set_mode-outcome.ensures.kept c.end.ensures.ended c.end.ensures.backend c.self.view_is c.set_mode-outcome.ensures.called
