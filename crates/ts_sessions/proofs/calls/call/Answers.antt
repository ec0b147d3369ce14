use Rattle.std.proofs.Common.{true, ap, arith, refl, sym, subst}
use Rattle.std.specs.Prelude.{Ok, Err, IsTrue}
use Rattle.ts_model.specs.Calls.{act_of_commit}
use Rattle.ts_sessions.specs.Held.{is_lost}
use Rattle.ts_sessions.specs.declared.calls.CallOutcome.TheVariants as outcomes
use Rattle.ts_sessions.specs.declared.deeds.Deed.TheVariants as deeds
use Rattle.ts_sessions.specs.Calls.{MeetsTo}
use Rattle.ts_sessions.specs.Deeds.{DeedFits, IsLostBy, at_in, cut_in, cut_left, turn_of_finish, left_by, line_of, making_of, rest, says}
use Rattle.ts_sessions.specs.Procedures.{ends, tries}
use Rattle.ts_sessions.specs.Step.{turn_of_commit, cuts_refresh, finishes_refresh, turn_of_line}
use Rattle.ts_sessions.specs.Walks.{Breaks}
use Rattle.ts_sessions.proofs.DeedWalks.{call_broken, job_tries, look_meets, tried_broken, tried_meets}
use Rattle.ts_sessions.proofs.JobLaws.{always_ok, finish_lost, known_job}
use Rattle.ts_sessions.proofs.NameCheckWalks.{looked_only}
use Rattle.ts_sessions.proofs.StateLaws.{looked_reports}
use Rattle.ts_sessions.proofs.calls.call.Goals as goal

-- ---- calls that may append an event

pub returns-in_err-tried-in-Make-clause-meets : goal.returns-in_err-tried-in-Make-clause-meets
returns-in_err-tried-in-Make-clause-meets g c =
    let old = g.B.Backend.state c.args.backend.now in
    let m = c.in-Make.making in
    tried_broken g.B.Shot.Shown g.B.Backend.alone old c.args.deed (deeds.Make m) (tries (making_of m)) (λ p read r. ends (turn_of_line p (says (line_of m)) r)) c.from_residual.result (g.B.Backend.state c.make_one.new.backend) c.from_residual.ensures.0 c.in-Make.is (λ p read. refl) c.in_err-tried-in-Make.ensures.tries

pub returns-in_ok-tried-in-Make-clause-meets : goal.returns-in_ok-tried-in-Make-clause-meets
returns-in_ok-tried-in-Make-clause-meets g c =
    let old = g.B.Backend.state c.args.backend.now in
    let m = c.in-Make.making in
    let r = c.into_result-came.result in
    tried_meets g.B.Shot.Shown g.B.Backend.alone old c.args.deed (deeds.Make m) (tries (making_of m)) (λ p read r. ends (turn_of_line p (says (line_of m)) r)) c.in_ok-tried-in-Make.tried r c.has_disk_fault-failed.result (outcomes.Number c.line-line.result r) (g.B.Backend.state c.make_one.new.backend) c.in-Make.is (λ p read. refl) (λ p read. ap (λ l. ends (turn_of_line p (says l) r)) c.line-line.ensures) c.in_ok-tried-in-Make.ensures.tries c.has_disk_fault-failed.ensures c.into_result-came.ensures (record { fits = tt; left_so = omega arith; spent_so = λ read. refl })

pub returns-in_err-tried-in-Commit-clause-meets : goal.returns-in_err-tried-in-Commit-clause-meets
returns-in_err-tried-in-Commit-clause-meets g c =
    let old = g.B.Backend.state c.args.backend.now in
    tried_broken g.B.Shot.Shown g.B.Backend.alone old c.args.deed (deeds.Commit c.in-Commit.ops c.in-Commit.leaves) (tries (act_of_commit c.in-Commit.ops)) (λ p read r. ends (turn_of_commit p (left_by c.in-Commit.leaves p) r)) c.from_residual-in_err-tried-in-Commit.result (g.B.Backend.state c.commit.new.backend) c.from_residual-in_err-tried-in-Commit.ensures.0 c.in-Commit.is (λ p read. refl) c.in_err-tried-in-Commit.ensures.tries

pub returns-in_ok-tried-in-Commit-clause-meets : goal.returns-in_ok-tried-in-Commit-clause-meets
returns-in_ok-tried-in-Commit-clause-meets g c =
    let old = g.B.Backend.state c.args.backend.now in
    let r = c.into_result-came-in-Commit.result in
    tried_meets g.B.Shot.Shown g.B.Backend.alone old c.args.deed (deeds.Commit c.in-Commit.ops c.in-Commit.leaves) (tries (act_of_commit c.in-Commit.ops)) (λ p read r. ends (turn_of_commit p (left_by c.in-Commit.leaves p) r)) c.in_ok-tried-in-Commit.tried r c.has_disk_fault-failed-in-Commit.result (outcomes.Commit c.in-Commit.leaves r) (g.B.Backend.state c.commit.new.backend) c.in-Commit.is (λ p read. refl) (λ p read. refl) c.in_ok-tried-in-Commit.ensures.tries c.has_disk_fault-failed-in-Commit.ensures c.into_result-came-in-Commit.ensures (record { fits = tt; left_so = omega arith; spent_so = λ read. refl })

pub returns-in_err-tried-in-Cut-clause-meets : goal.returns-in_err-tried-in-Cut-clause-meets
returns-in_err-tried-in-Cut-clause-meets g c =
    let old = g.B.Backend.state c.args.backend.now in
    let a = c.in-Cut.asked in
    let then = c.in-Cut.then in
    tried_broken g.B.Shot.Shown g.B.Backend.alone old c.args.deed (deeds.Cut a then) (cuts_refresh a.view a.lo a.hi) (λ p read r. cut_left p a.min then r) c.from_residual-in_err-tried-in-Cut.result (g.B.Backend.state c.cut.new.backend) c.from_residual-in_err-tried-in-Cut.ensures.0 c.in-Cut.is (λ p read. refl) c.in_err-tried-in-Cut.ensures.tries

pub returns-in_ok-tried-in-Cut-clause-meets : goal.returns-in_ok-tried-in-Cut-clause-meets
returns-in_ok-tried-in-Cut-clause-meets g c =
    let old = g.B.Backend.state c.args.backend.now in
    let a = c.in-Cut.asked in
    let then = c.in-Cut.then in
    let r = c.into_result-came-in-Cut.result in
    tried_meets g.B.Shot.Shown g.B.Backend.alone old c.args.deed (deeds.Cut a then) (cuts_refresh a.view a.lo a.hi) (λ p read r. cut_left p a.min then r) c.in_ok-tried-in-Cut.tried r c.has_disk_fault-failed-in-Cut.result (outcomes.Cut a then r) (g.B.Backend.state c.cut.new.backend) c.in-Cut.is (λ p read. refl) (λ p read. refl) c.in_ok-tried-in-Cut.ensures.tries c.has_disk_fault-failed-in-Cut.ensures c.into_result-came-in-Cut.ensures (record { fits = tt; left_so = omega arith; spent_so = λ read. refl })

pub returns-in_err-tried-in-Finish-clause-meets : goal.returns-in_err-tried-in-Finish-clause-meets
returns-in_err-tried-in-Finish-clause-meets g c =
    let old = g.B.Backend.state c.args.backend.now in
    let f = c.in-Finish.finishing in
    tried_broken g.B.Shot.Shown g.B.Backend.alone old c.args.deed (deeds.Finish c.in-Finish.job f) (finishes_refresh (cut_in f) (at_in f)) (λ p read r. ends (turn_of_finish p read f r)) c.from_residual-in_err-tried-in-Finish.result (g.B.Backend.state c.finish.new.backend) c.from_residual-in_err-tried-in-Finish.ensures.0 c.in-Finish.is (λ p read. refl) (job_tries g.B.Shot.Shown g.B.Backend.alone old c.args.deed c.in-Finish.job f (Err _) (g.B.Backend.state c.finish.new.backend) c.requires.fits c.in-Finish.is c.in_err-tried-in-Finish.ensures.tries)

pub returns-in_ok-tried-in-Finish-clause-meets : goal.returns-in_ok-tried-in-Finish-clause-meets
returns-in_ok-tried-in-Finish-clause-meets g c =
    let old = g.B.Backend.state c.args.backend.now in
    let f = c.in-Finish.finishing in
    let r = c.into_result-came-in-Finish.result in
    tried_meets g.B.Shot.Shown g.B.Backend.alone old c.args.deed (deeds.Finish c.in-Finish.job f) (finishes_refresh (cut_in f) (at_in f)) (λ p read r. ends (turn_of_finish p read f r)) c.in_ok-tried-in-Finish.tried r c.has_disk_fault-failed-in-Finish.result (outcomes.Finish f r) (g.B.Backend.state c.finish.new.backend) c.in-Finish.is (λ p read. refl) (λ p read. refl) (job_tries g.B.Shot.Shown g.B.Backend.alone old c.args.deed c.in-Finish.job f (Ok c.in_ok-tried-in-Finish.tried) (g.B.Backend.state c.finish.new.backend) c.requires.fits c.in-Finish.is c.in_ok-tried-in-Finish.ensures.tries) c.has_disk_fault-failed-in-Finish.ensures c.into_result-came-in-Finish.ensures (record { fits = tt; left_so = omega arith; spent_so = λ read. refl })

-- the refresh can't be finished any more
pub returns-in_ok-tried-in-Finish-clause-lost : goal.returns-in_ok-tried-in-Finish-clause-lost
returns-in_ok-tried-in-Finish-clause-lost g c =
    let old = g.B.Backend.state c.args.backend.now in
    let new = g.B.Backend.state c.finish.new.backend in
    let k = subst (λ d. DeedFits g.B.Shot.Shown d old) c.in-Finish.is c.requires.fits in
    let known = known_job old.history _ _ (g.met.B.Shot.Shown.fits_soundly c.in-Finish.job old.history k.0) in
    let lost = finish_lost g.B.Backend.alone _ old _ _ new _ known c.in_ok-tried-in-Finish.ensures.tries in
    subst (λ d. IsLostBy d new) (sym c.in-Finish.is) (subst (λ n. IsTrue (is_lost new n)) k.1 lost)

-- ---- a new aggregate

pub returns-in-View-clause-meets : goal.returns-in-View-clause-meets
returns-in-View-clause-meets g c =
    subst (λ d. MeetsTo g.B.Shot.Shown g.B.Backend.alone (g.B.Backend.state c.args.backend.now) d c.make_view.result (g.B.Backend.state c.make_view.new.backend)) (sym c.in-View.is) c.make_view.ensures.meets

pub returns-in-View-clause-lost : goal.returns-in-View-clause-lost
returns-in-View-clause-lost g c =
    let new = g.B.Backend.state c.make_view.new.backend in
    always_ok (IsLostBy c.args.deed new) c.make_view.result (subst (λ d. IsLostBy d new) (sym c.in-View.is) tt)

-- ---- a snapshot

pub returns-in_err-shot-in-Look-clause-meets : goal.returns-in_err-shot-in-Look-clause-meets
returns-in_err-shot-in-Look-clause-meets g c =
    let old = g.B.Backend.state c.args.backend.now in
    let new = g.B.Backend.state c.snap.new.self in
    call_broken g.B.Shot.Shown g.B.Backend.alone old c.args.deed c.from_residual-in_err-shot-in-Look.result new c.from_residual-in_err-shot-in-Look.ensures.0 (λ p read.
    subst (λ d. Breaks g.B.Backend.alone old (rest p read d) new) (sym c.in-Look.is) (looked_only g.B.Backend.alone old _ new (λ h. true) _ c.in_err-shot-in-Look.ensures.looked))

pub returns-in_ok-shot-in-Look-clause-meets : goal.returns-in_ok-shot-in-Look-clause-meets
returns-in_ok-shot-in-Look-clause-meets g c =
    let old = g.B.Backend.state c.args.backend.now in
    let mid = g.B.Backend.state c.snap.new.self in
    let looked = c.in_ok-shot-in-Look.ensures.looked in
    let tells = looked_reports g.B.Backend.alone old _ mid looked in
    look_meets g.B.Shot.Shown g.B.Backend.alone old c.args.deed c.in-Look.then c.in_ok-shot-in-Look.shot _ mid c.in-Look.is looked tells.1 tells.0
