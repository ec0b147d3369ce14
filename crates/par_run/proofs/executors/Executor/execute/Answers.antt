use Rattle.par_run.proofs.ReplyLaws.{answered_kept, next_executed, on_error, stepped_breaks, stepped_counts}
use Rattle.par_run.proofs.executors.Executor.execute.Goals as goal

pub returns-clause-executed : goal.returns-clause-executed
returns-clause-executed g c =
    let actors = g.A.Actor in
    let actor = c.args.self.now.actor in
    let after = c.act-end.new.self in
    let old = g.B.Backend.state c.args.backend.now in
    next_executed actors.within actors.semantics.does (actors.semantics.opening 0) g.B.Backend.alone (actors.named actor) (actors.named after)
    (record { text = c.args.text.now; skip = c.args.skip }) old (actors.places actor) c.args.self.now.replies
    c.act-end.result (g.B.Backend.state c.act-end.new.backend) (actors.places after) c.keep.new.self c.args.self.now.steps c.act-end.new.steps
    c.act-end.ensures.name (g.met.A.Actor.begun actor old c.requires.holds) c.act-end.ensures.stepped c.in_ok-keep.ensures

pub returns-clause-holds : goal.returns-clause-holds
returns-clause-holds g c = answered_kept c.args.text.now c.act-end.result c.args.self.now.replies c.keep.new.self _ c.in_ok-keep.ensures c.act-end.ensures.holds

pub returns-in_err-keep-clause-broke : goal.returns-in_err-keep-clause-broke
returns-in_err-keep-clause-broke g c =
    let actors = g.A.Actor in
    let actor = c.args.self.now.actor in
    on_error _ c.from_residual.result
    (stepped_breaks g.B.Backend.alone (g.B.Backend.state c.args.backend.now) (actors.semantics.does (actors.places actor) c.args.text.now c.args.skip) (actors.named actor)
    c.act-end.result (g.B.Backend.state c.act-end.new.backend) (actors.places c.act-end.new.self) c.args.self.now.steps c.act-end.new.steps c.act-end.ensures.stepped)

pub returns-in_err-keep-clause-counted : goal.returns-in_err-keep-clause-counted
returns-in_err-keep-clause-counted g c = λ low.
    let actors = g.A.Actor in
    let actor = c.args.self.now.actor in
    stepped_counts g.B.Backend.alone (g.B.Backend.state c.args.backend.now) (actors.semantics.does (actors.places actor) c.args.text.now c.args.skip) (actors.named actor)
    c.act-end.result (g.B.Backend.state c.act-end.new.backend) (actors.places c.act-end.new.self) c.args.self.now.steps c.act-end.new.steps c.act-end.ensures.stepped low

pub returns-clause-counted : goal.returns-clause-counted
returns-clause-counted g c = λ low.
    let actors = g.A.Actor in
    let actor = c.args.self.now.actor in
    stepped_counts g.B.Backend.alone (g.B.Backend.state c.args.backend.now) (actors.semantics.does (actors.places actor) c.args.text.now c.args.skip) (actors.named actor)
    c.act-end.result (g.B.Backend.state c.act-end.new.backend) (actors.places c.act-end.new.self) c.args.self.now.steps c.act-end.new.steps c.act-end.ensures.stepped low
