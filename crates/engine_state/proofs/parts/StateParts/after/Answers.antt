-- Each event as a step of the parts.
use Rattle.ts_model.specs.declared.events.Event.TheVariants.{Cut, Hyper, Mode}
use Rattle.engine_state.proofs.StepFacts.{finish_steps, steps_as}
use Rattle.engine_state.proofs.parts.StateParts.after.Goals as goal

pub returns-in_ok-with_job-in-Some-clause-stands : goal.returns-in_ok-with_job-in-Some-clause-stands
returns-in_ok-with_job-in-Some-clause-stands c = finish_steps c.args.self.now c.args.event.now c.args.job.now c.in-Built.cut c.in-Built.snap c.in-Some.job c.in_ok-with_job-in-Some.field-0 c.still-in-Some.result.made c.in-Built.is c.in-Some.is c.in_ok-with_job-in-Some.ensures.stands c.still-in-Some.ensures.made

pub returns-in_ok-with_mode-in-Mode-clause-stands : goal.returns-in_ok-with_mode-in-Mode-clause-stands
returns-in_ok-with_mode-in-Mode-clause-stands c = steps_as c.args.self.now c.args.event.now (Mode c.in-Mode.view c.in-Mode.only) c.args.job.now c.in_ok-with_mode-in-Mode.field-0 c.still-in-Mode.result.made c.in-Mode.is (c.in_ok-with_mode-in-Mode.ensures.stands c.in-Mode.view c.in-Mode.only c.in-Mode.is) c.still-in-Mode.ensures.made

pub returns-in_ok-with_cut-in-Cut-clause-stands : goal.returns-in_ok-with_cut-in-Cut-clause-stands
returns-in_ok-with_cut-in-Cut-clause-stands c = steps_as c.args.self.now c.args.event.now (Cut c.in-Cut.view c.in-Cut.span) c.args.job.now c.in_ok-with_cut-in-Cut.field-0 c.still-in-Cut.result.made c.in-Cut.is c.in_ok-with_cut-in-Cut.ensures.stands c.still-in-Cut.ensures.made

pub returns-in_ok-with_hyper-in-Hyper-clause-stands : goal.returns-in_ok-with_hyper-in-Hyper-clause-stands
returns-in_ok-with_hyper-in-Hyper-clause-stands c = steps_as c.args.self.now c.args.event.now (Hyper c.in-Hyper.table c.in-Hyper.hyper) c.args.job.now c.in_ok-with_hyper-in-Hyper.field-0 c.still-in-Hyper.result.made c.in-Hyper.is c.in_ok-with_hyper-in-Hyper.ensures.stands c.still-in-Hyper.ensures.made
