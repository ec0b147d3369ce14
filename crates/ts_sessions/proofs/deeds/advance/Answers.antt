use Rattle.std.proofs.Common.{◌<◌, ◌≤◌, arith, refl}
use Rattle.ts_sessions.specs.Calls.{meets_left}
use Rattle.ts_sessions.specs.Deeds.{left, left_next}
use Rattle.ts_sessions.proofs.DeedWalks.{broken_off, met_goes}
use Rattle.ts_sessions.proofs.WalkLaws.{not_begun}
use Rattle.ts_sessions.proofs.deeds.advance.Goals as goal

-- out of memory for the call, or for what follows it
pub returns-in_err-meeting-clause-advances : goal.returns-in_err-meeting-clause-advances
returns-in_err-meeting-clause-advances g c = λ p read.
    broken_off g.B.Backend.alone (g.B.Backend.state c.args.backend.now) p read c.args.deed c.from_residual.result (g.B.Backend.state c.call.new.backend) _ _ c.from_residual.ensures.0 (c.in_err-meeting.ensures.meets p read) (omega arith)

pub returns-in_err-next-clause-advances : goal.returns-in_err-next-clause-advances
returns-in_err-next-clause-advances g c = λ p read.
    let new = g.B.Backend.state c.call.new.backend in
    let met = c.in_ok-meeting.ensures.meets in
    broken_off g.B.Backend.alone (g.B.Backend.state c.args.backend.now) p read c.args.deed c.from_residual-in_err-next.result new _ _ c.from_residual-in_err-next.ensures.0 ((met.leads p read).breaks new (not_begun g.B.Backend.alone new _)) (c.in_err-next.ensures new.history met.answers.fits)

-- what follows it
pub returns-clause-advances : goal.returns-clause-advances
returns-clause-advances g c = λ p read.
    let new = g.B.Backend.state c.call.new.backend in
    let met = c.in_ok-meeting.ensures.meets in
    met_goes g.B.Shot.Shown g.B.Backend.alone (g.B.Backend.state c.args.backend.now) p read c.args.deed c.in_ok-meeting.meeting c.in_ok-next.next new _ _ met (c.in_ok-next.ensures new.history met.answers.fits)

pub returns-clause-fits : goal.returns-clause-fits
returns-clause-fits g c = λ bytes.
    let new = g.B.Backend.state c.call.new.backend in
    (c.in_ok-next.ensures new.history c.in_ok-meeting.ensures.meets.answers.fits).fits new bytes refl

pub returns-clause-shorter : goal.returns-clause-shorter
returns-clause-shorter g c =
    let new = g.B.Backend.state c.call.new.backend in
    let answers = c.in_ok-meeting.ensures.meets.answers in
    let fewer : left_next c.in_ok-next.next < meets_left c.in_ok-meeting.meeting.outcome = (c.in_ok-next.ensures new.history answers.fits).shorter in
    let most : meets_left c.in_ok-meeting.meeting.outcome ≤ left c.args.deed = answers.left_so in
    omega (arith, fewer, most)
