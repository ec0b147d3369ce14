use Rattle.std.proofs.Common.{◌∙◌, ap, subst}
use Rattle.ts_sessions.specs.declared.calls.CallOutcome.TheVariants as outcomes
use Rattle.ts_sessions.specs.declared.deeds.AfterCut.TheVariants as after_cuts
use Rattle.ts_sessions.specs.Calls.{OutcomeFits}
use Rattle.ts_sessions.proofs.FollowLaws.{follows_to, found_follows, outcome_follows}
use Rattle.ts_sessions.proofs.follows.follow.Goals as goal

pub returns-in-Number : goal.returns-in-Number
returns-in-Number g c = λ h fits. follows_to g.T.Shown h c.args.outcome (outcomes.Number c.in-Number.line c.in-Number.came) c.after_number.result _ c.in-Number.is (c.after_number.ensures h)

pub returns-in-Commit : goal.returns-in-Commit
returns-in-Commit g c = λ h fits. follows_to g.T.Shown h c.args.outcome (outcomes.Commit c.in-Commit.leaves c.in-Commit.came) c.after_commit.result _ c.in-Commit.is (c.after_commit.ensures h)

pub returns-in-Found : goal.returns-in-Found
returns-in-Found g c = λ h fits. found_follows g.T.Shown h c.args.outcome c.in-Found.asked _ c.in-Found.is (subst (OutcomeFits g.T.Shown h) c.in-Found.is fits)

pub returns-in-Refresh : goal.returns-in-Refresh
returns-in-Refresh g c = λ h fits.
    let a = c.in-Cut.asked in
    follows_to g.T.Shown h c.args.outcome (outcomes.Cut a after_cuts.Refresh c.in-Cut.came) c.after_refresh_cut.result _ (c.in-Cut.is ∙ ap (λ t. outcomes.Cut a t c.in-Cut.came) c.in-Refresh.is) (c.after_refresh_cut.ensures h)

pub returns-in-End : goal.returns-in-End
returns-in-End g c = λ h fits.
    let a = c.in-Cut.asked in
    follows_to g.T.Shown h c.args.outcome (outcomes.Cut a after_cuts.End c.in-Cut.came) c.after_cut.result _ (c.in-Cut.is ∙ ap (λ t. outcomes.Cut a t c.in-Cut.came) c.in-End.is) (c.after_cut.ensures h)

pub returns-in-Finish : goal.returns-in-Finish
returns-in-Finish g c = λ h fits. follows_to g.T.Shown h c.args.outcome (outcomes.Finish c.in-Finish.finishing c.in-Finish.came) c.after_finish.result _ c.in-Finish.is (c.after_finish.ensures h)

pub returns-in-Look : goal.returns-in-Look
returns-in-Look g c = λ h fits.
    let shown = subst (OutcomeFits g.T.Shown h) c.in-Look.is fits in
    outcome_follows g.T.Shown h c.args.outcome (outcomes.Look c.in-Look.then c.in-Look.shot) c.after_look.result _ _ c.in-Look.is (c.after_look.ensures h shown.0 shown.1)
