use Rattle.std.proofs.Common.{All, subst, sym}
use Rattle.par_workers.specs.Slots.{HasPass, AllServed, workers_of}
use Rattle.par_workers.proofs.SlotLaws.{all_ran, fresh_has, served_have, shares_back}
use Rattle.par_workers.proofs.crews.run_at_once.Goals as goal

pub serve_all-requires-clause-ready : goal.serve_all-requires-clause-ready
serve_all-requires-clause-ready g c κs within = subst (All g.W.Worker.ready) (sym c.share_passes.ensures.workers) c.requires.ready

pub serve_all-requires-clause-passes : goal.serve_all-requires-clause-passes
serve_all-requires-clause-passes g c κs within = subst (λ s. All (HasPass s) c.share_passes.new.slots) (sym c.lock.ensures) (fresh_has c.args.store.now c.args.all c.share_passes.new.slots c.share_passes.ensures.begins)

pub collect-requires-clause-passes : goal.collect-requires-clause-passes
collect-requires-clause-passes g c =
    let served = subst (λ s. AllServed g.B.Backend.state s g.W.Worker.did c.share_passes.new.slots c.serve_all.new.slots) c.lock.ensures c.serve_all.ensures in
    served_have g.B.Backend.state c.args.store.now g.W.Worker.did c.share_passes.new.slots c.serve_all.new.slots served.as_many served.each

pub returns-clause-shares : goal.returns-clause-shares
returns-clause-shares g c =
    let served = subst (λ s. AllServed g.B.Backend.state s g.W.Worker.did c.share_passes.new.slots c.serve_all.new.slots) c.lock.ensures c.serve_all.ensures in
    shares_back g.B.Backend.state c.args.store.now g.W.Worker.did c.args.all c.share_passes.new.all c.collect.result c.args.slots.now c.share_passes.new.slots c.serve_all.new.slots c.share_passes.ensures.same c.requires.room c.share_passes.ensures.workers c.share_passes.ensures.begins served c.collect.ensures.shares

pub returns-clause-ran : goal.returns-clause-ran
returns-clause-ran g c =
    let served = subst (λ s. AllServed g.B.Backend.state s g.W.Worker.did c.share_passes.new.slots c.serve_all.new.slots) c.lock.ensures c.serve_all.ensures in
    all_ran g.B.Backend.state c.args.store.now g.W.Worker.did c.args.all c.share_passes.new.all c.collect.result _ c.args.slots.now c.share_passes.new.slots c.serve_all.new.slots c.collect.new.slots c.share_passes.ensures.same c.share_passes.ensures.workers c.share_passes.ensures.begins served c.collect.ensures.known c.collect.ensures.made c.collect.ensures.workers
