use Rattle.std.proofs.Common.{refl, subst}
use Rattle.std.specs.Prelude.{IfOk}
use Rattle.engine_core.specs.Histories.{history_of}
use Rattle.engine_core.specs.Values.{EngineValue}
use Rattle.engine_state.specs.Stands.{StandsFor}
use Rattle.ts_model.specs.Calls.{Snapped}
use Rattle.ts_store.proofs.CallLaws.{looks}
use Rattle.ts_store.proofs.backends.StoreBackend.snap.Goals as goal

pub returns-clause-looked : goal.returns-clause-looked
returns-clause-looked g c =
    looks g.D.Disk.bytes g.D.Disk.may_leave g.D.Disk.moment g.D.Disk.left_since g.D.Disk.faults (Snapped (λ shot h. StandsFor h shot) c.shot.result) c.args.self.now c.args.self.now c.store_law.ensures.kept
    (record { past = refl; failed = refl; counted = refl; begun = refl; opened = refl })
    (c.store_law.ensures.kept.sound.allowed, subst (λ (e : EngineValue). IfOk c.shot.result (λ shot. StandsFor (history_of e.past) shot)) c.engine.ensures.engine c.shot.ensures.stands)
