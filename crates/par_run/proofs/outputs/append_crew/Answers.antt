use Rattle.std.proofs.Common.{◌∙◌, map, map-id, sym, ap, refl, rules}
use Rattle.std.specs.List.{list_any}
use Rattle.std.proofs.lemmas.Iterator.Consumers.{YieldsList-end}
use Rattle.std.proofs.lemmas.Iterator.Adapters.{YieldsList-from_vec}
use Rattle.par_workers.specs.Slots.{workers_of}
use Rattle.par_run.specs.Outputs.{output_in, with_sessions}
use Rattle.par_run.specs.Workers.{ran_out, replies_of}
use Rattle.par_run.proofs.OutputLaws.{enough_more, output_more}
use Rattle.par_run.proofs.outputs.append_crew.Goals as goal

pub loop-slot-init : goal.loop-slot-init
loop-slot-init g c = record { can = tt; finite = tt; enough = refl; output = refl }

pub loop-slot-preserved-in_ok-append_worker : goal.loop-slot-preserved-in_ok-append_worker
loop-slot-preserved-in_ok-append_worker g c =
    let more = c.in_ok-append_worker.ensures in
    record {
      can = tt;
      finite = tt;
      enough = enough_more c.loop-slot.yielded c.in-Some.slot c.loop-slot.invariant.enough more.enough;
      output = output_more g.A.Actor.named c.loop-slot.yielded c.in-Some.slot (output_in c.args.output.now) (output_in c.loop-slot.output) (output_in c.append_worker.new.output) c.loop-slot.invariant.output more.output;
    }

pub loop-slot-preserved : goal.loop-slot-preserved
loop-slot-preserved g c =
    let more = c.in_ok-append_worker.ensures in
    record {
      can = tt;
      finite = tt;
      enough = enough_more c.loop-slot.yielded c.in-Some.slot c.loop-slot.invariant.enough more.enough;
      output = output_more g.A.Actor.named c.loop-slot.yielded c.in-Some.slot (output_in c.args.output.now) (output_in c.loop-slot.output) (output_in c.append_worker.new.output) c.loop-slot.invariant.output more.output;
    }

pub returns-clause-enough : goal.returns-clause-enough
returns-clause-enough g c =
    let end = YieldsList-end (YieldsList-from_vec {s = c.into_iter-slot-iterator.result} c.args.crew.items (search rules) (search rules))
    c.loop-slot.yielded c.loop-slot.slot-iterator c.loop-slot.yielded_by c.next.result c.next.new.self c.in-None.is c.next.ensures.steps in
    ap (λ xs. list_any ran_out (workers_of xs)) (sym (sym (map-id c.loop-slot.yielded) ∙ end.0)) ∙ c.loop-slot.invariant.enough

pub returns-clause-output : goal.returns-clause-output
returns-clause-output g c =
    let end = YieldsList-end (YieldsList-from_vec {s = c.into_iter-slot-iterator.result} c.args.crew.items (search rules) (search rules))
    c.loop-slot.yielded c.loop-slot.slot-iterator c.loop-slot.yielded_by c.next.result c.next.new.self c.in-None.is c.next.ensures.steps in
    c.loop-slot.invariant.output ∙ ap (λ xs. with_sessions (map (replies_of g.A.Actor.named) (workers_of xs)) (output_in c.args.output.now)) (sym (map-id c.loop-slot.yielded) ∙ end.0)
