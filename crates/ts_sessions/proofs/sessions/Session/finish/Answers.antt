use Rattle.std.proofs.Common.{◌∙◌, refl, sym, subst}
use Rattle.ts_sessions.specs.Held.{places_in}
use Rattle.ts_sessions.specs.Jobs.{TakesJob}
use Rattle.ts_sessions.proofs.HeldDeeds.{stands_held, stands_lost, stands_unheld, takes_job, takes_lost, takes_nothing}
use Rattle.ts_sessions.proofs.JobLaws.{held_at, held_holds, not_held}
use Rattle.ts_sessions.proofs.sessions.Session.finish.Goals as goal

pub returns-in-Job-clause-stands : goal.returns-in-Job-clause-stands
returns-in-Job-clause-stands g c = λ s k.
    let w = subst (λ r. TakesJob c.in-Some.cut c.args.self.now.held.entries r c.take_job.new.self.held.entries) c.in-Job.is c.take_job.ensures.took in
    stands_held (places_in c.args.self.now) c.args.number c.in-Some.cut c.in-Job.at s (sym c.refresh_named.ensures ∙ c.in-Some.is) (held_at c.in-Some.cut c.args.self.now.held.entries _ w.0)

pub returns-in-Job-clause-fits : goal.returns-in-Job-clause-fits
returns-in-Job-clause-fits g c = λ s k.
    let w = subst (λ r. TakesJob c.in-Some.cut c.args.self.now.held.entries r c.take_job.new.self.held.entries) c.in-Job.is c.take_job.ensures.took in
    held_holds g.T.Shown s c.in-Some.cut c.args.self.now.held.entries _ k.snapshots w.0

pub returns-in-Job-clause-takes : goal.returns-in-Job-clause-takes
returns-in-Job-clause-takes g c =
    let w = subst (λ r. TakesJob c.in-Some.cut c.args.self.now.held.entries r c.take_job.new.self.held.entries) c.in-Job.is c.take_job.ensures.took in
    takes_job g.T.Shown g.met.T.Shown.fits_on _ c.in-Some.cut c.in-Job.at c.in-Job.job c.args.self.now c.take_job.new.self (sym c.refresh_named.ensures ∙ c.in-Some.is) c.take_job.ensures.block c.take_job.ensures.cut w

pub returns-in-Lost-clause-stands : goal.returns-in-Lost-clause-stands
returns-in-Lost-clause-stands g c = λ s k.
    let w = subst (λ r. TakesJob c.in-Some.cut c.args.self.now.held.entries r c.take_job.new.self.held.entries) c.in-Lost.is c.take_job.ensures.took in
    stands_lost (places_in c.args.self.now) c.args.number c.in-Some.cut c.in-Lost.at s (sym c.refresh_named.ensures ∙ c.in-Some.is) (held_at c.in-Some.cut c.args.self.now.held.entries _ w.0) (held_holds g.T.Shown s c.in-Some.cut c.args.self.now.held.entries _ k.snapshots w.0)

pub returns-in-Lost-clause-takes : goal.returns-in-Lost-clause-takes
returns-in-Lost-clause-takes g c =
    let w = subst (λ r. TakesJob c.in-Some.cut c.args.self.now.held.entries r c.take_job.new.self.held.entries) c.in-Lost.is c.take_job.ensures.took in
    takes_lost g.T.Shown g.met.T.Shown.fits_on _ c.in-Some.cut c.in-Lost.at _ c.args.self.now c.take_job.new.self refl c.take_job.ensures.block c.take_job.ensures.cut w

pub returns-in-Nothing-clause-stands : goal.returns-in-Nothing-clause-stands
returns-in-Nothing-clause-stands g c = λ s k.
    let w = subst (λ r. TakesJob c.in-Some.cut c.args.self.now.held.entries r c.take_job.new.self.held.entries) c.in-Nothing.is c.take_job.ensures.took in
    stands_unheld (places_in c.args.self.now) c.args.number c.in-Some.cut s (sym c.refresh_named.ensures ∙ c.in-Some.is) (not_held c.in-Some.cut c.args.self.now.held.entries w.0)

pub returns-in-Nothing-clause-takes : goal.returns-in-Nothing-clause-takes
returns-in-Nothing-clause-takes g c =
    let w = subst (λ r. TakesJob c.in-Some.cut c.args.self.now.held.entries r c.take_job.new.self.held.entries) c.in-Nothing.is c.take_job.ensures.took in
    takes_nothing g.T.Shown g.met.T.Shown.fits_on _ _ c.args.self.now c.take_job.new.self refl c.take_job.ensures.block c.take_job.ensures.cut w.1

pub returns-in-None-clause-takes : goal.returns-in-None-clause-takes
returns-in-None-clause-takes g c = takes_nothing g.T.Shown g.met.T.Shown.fits_on _ _ c.args.self.now _ refl refl refl refl
