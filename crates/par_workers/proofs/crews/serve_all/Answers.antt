use Rattle.std.proofs.Common.{rules, subst, sym, slice_index_or}
use Rattle.par_workers.specs.Slots.{HasPass, Served}
use Rattle.par_workers.proofs.SlotLaws.{ready_at}
use Rattle.shared_store.specs.Stores.{shared_of}
use Rattle.par_workers.proofs.crews.serve_all.Goals as goal

pub for_each_mut-requires-clause-accepts : goal.for_each_mut-requires-clause-accepts
for_each_mut-requires-clause-accepts g c κs within = λ i p lt at. (
  (search rules, subst (λ s. g.W.Worker.ready s.0) (sym at) (ready_at g.W.Worker.ready c.args.slots.now i p.now lt c.requires.ready), subst (λ s. HasPass (shared_of c.args.lock.now) s) (sym at) (c.requires.passes i p.now lt)),
  search rules,
)

pub returns : goal.returns
returns g c = record {
  as_many = search rules;
  each = λ i d lt.
      let k = (c.for_each_mut.ensures i d lt).1 in
      subst (λ t. Served g.B.Backend.state (shared_of c.args.lock.now) g.W.Worker.did (slice_index_or c.args.slots.now i d) t) k.left
      (subst (λ s. Served g.B.Backend.state (shared_of c.args.lock.now) g.W.Worker.did s k.after_call.now) k.argument_is k.call);
}
