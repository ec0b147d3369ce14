use Rattle.std.specs.Prelude.{IsSome}
use Rattle.ts_model.specs.Roster.{roster, view_of}
use Rattle.shared_store.proofs.DeskLaws.{called_ends, desk_called, desk_stays, holds_there, view_stays}
use Rattle.shared_store.proofs.desk.DeskBackend.cut.Goals as goal

pub cut-outcome-requires-clause-view : goal.cut-outcome-requires-clause-view
cut-outcome-requires-clause-view g c = holds_there g.B.Backend.state _ c.self.view_is (λ h. IsSome (view_of (roster h) c.args.view)) (view_stays c.args.view) c.begin-held.ensures.begins c.requires.view

pub end-requires : goal.end-requires
end-requires g c = called_ends g.B.Backend.alone g.B.Backend.state g.B.Backend.kin _ _ c.begin-held.result c.self.invariant c.begin-held.ensures c.cut-outcome.new.self c.cut-outcome.ensures.kept c.cut-outcome.ensures.called

pub invariant_of-self : goal.invariant_of-self
invariant_of-self g c = desk_stays g.B.Backend.alone g.B.Backend.state g.B.Backend.kin _ _ c.begin-held.result c.self.invariant c.begin-held.ensures c.cut-outcome.new.self c.end.new.pass c.end.result c.cut-outcome.ensures.kept c.end.ensures.ended c.end.ensures.backend c.end.ensures.stopped

pub returns-clause-called : goal.returns-clause-called
returns-clause-called g c = desk_called g.B.Backend.alone g.B.Backend.state g.B.Backend.kin _ _ c.begin-held.result c.self.invariant c.begin-held.ensures c.cut-outcome.new.self c.end.new.pass c.end.result c.cut-outcome.ensures.kept c.end.ensures.ended c.end.ensures.backend c.self.view_is c.cut-outcome.ensures.called
