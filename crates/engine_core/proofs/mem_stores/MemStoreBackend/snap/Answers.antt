use Rattle.std.specs.Prelude.{IfOk, IsTrue}
use Rattle.ts_model.specs.Allowed.{all_allowed}
use Rattle.engine_state.specs.Stands.{StandsFor}
use Rattle.engine_core.specs.Histories.{history_of}
use Rattle.engine_core.proofs.StoreLaws.{looked_where_seen}
use Rattle.engine_core.proofs.mem_stores.MemStoreBackend.snap.Goals as goal

pub returns-clause-looked : goal.returns-clause-looked
returns-clause-looked c =
    looked_where_seen (λ h. IsTrue (all_allowed h) × IfOk c.shot.result (λ shot. StandsFor h shot)) (history_of c.args.self.now.engine.past)
    (c.shot.ensures.allowed, c.shot.ensures.stands)
