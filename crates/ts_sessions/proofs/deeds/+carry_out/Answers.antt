use Rattle.std.proofs.Common.{subst}
use Rattle.ts_sessions.specs.Deeds.{NextFits}
use Rattle.ts_sessions.specs.Places.{no_places}
use Rattle.ts_sessions.proofs.DeedWalks.{broken_here, broken_later, ended, joined_brings, lost_ended, lost_later, went_on}
use Rattle.ts_sessions.proofs.deeds.+carry_out.Goals as goal

-- ---- the end

pub returns-in-End-clause-ends : goal.returns-in-End-clause-ends
returns-in-End-clause-ends g t c = λ p read.
    let s = g.B.Backend.state c.args.backend.now in
    let fits = subst (λ n. NextFits g.B.Shot.Shown c.requires.fits.0 n s) c.in-End.is c.requires.fits.1 in
    ended g.B.Backend.alone s p read c.args.next c.in-End.completion _ c.in-End.is fits.stands

pub returns-in-End-clause-change : goal.returns-in-End-clause-change
returns-in-End-clause-change g t c = λ bytes fits. (subst (λ n. NextFits g.B.Shot.Shown bytes n (g.B.Backend.state c.args.backend.now)) c.in-End.is fits).change

pub returns-in-End-clause-lost : goal.returns-in-End-clause-lost
returns-in-End-clause-lost g t c = lost_ended c.args.next c.in-End.completion (g.B.Backend.state c.args.backend.now) c.in-End.is

-- ---- a store call, and what follows it

pub returns-in_err-advanced-in-Deed-clause-ends : goal.returns-in_err-advanced-in-Deed-clause-ends
returns-in_err-advanced-in-Deed-clause-ends g t c = λ p read.
    broken_here g.B.Backend.alone (g.B.Backend.state c.args.backend.now) p read c.args.next c.in-Deed.deed _ c.from_residual.result _ _ _ c.in-Deed.is c.from_residual.ensures.0 (c.in_err-advanced-in-Deed.ensures.advances p read)

pub returns-in_err-completion-in-Deed-clause-ends : goal.returns-in_err-completion-in-Deed-clause-ends
returns-in_err-completion-in-Deed-clause-ends g t c = λ p read.
    broken_later g.B.Backend.alone (g.B.Backend.state c.args.backend.now) p read c.args.next c.in-Deed.deed c.in_ok-advanced-in-Deed.advanced _ _ c.from_residual-in_err-completion-in-Deed.result _ _ _ _ c.in-Deed.is c.from_residual-in_err-completion-in-Deed.ensures.0 (c.in_ok-advanced-in-Deed.ensures.advances p read) (λ had. c.in_err-completion-in-Deed.ensures.ends p had)

pub returns-in_ok-completion-in-Deed-clause-ends : goal.returns-in_ok-completion-in-Deed-clause-ends
returns-in_ok-completion-in-Deed-clause-ends g t c = λ p read.
    went_on g.B.Backend.alone (g.B.Backend.state c.args.backend.now) p read c.args.next c.in-Deed.deed c.in_ok-advanced-in-Deed.advanced _ c.in_ok-completion-in-Deed.completion c.prepend_line.result _ _ _ _ c.in-Deed.is (c.in_ok-advanced-in-Deed.ensures.advances p read) (λ had. c.in_ok-completion-in-Deed.ensures.ends p had) c.prepend_line.ensures

pub returns-in_ok-completion-in-Deed-clause-change : goal.returns-in_ok-completion-in-Deed-clause-change
returns-in_ok-completion-in-Deed-clause-change g t c = λ bytes fits.
    joined_brings g.B.Shot.Shown bytes _ _ _ c.in_ok-completion-in-Deed.completion c.prepend_line.result c.prepend_line.ensures (c.in_ok-completion-in-Deed.ensures.change bytes (c.in_ok-advanced-in-Deed.ensures.fits bytes))

pub returns-in_ok-completion-in-Deed-clause-lost : goal.returns-in_ok-completion-in-Deed-clause-lost
returns-in_ok-completion-in-Deed-clause-lost g t c =
    lost_later g.B.Backend.alone c.args.next c.in-Deed.deed _ no_places 0 _ c.prepend_line.result (g.B.Backend.state c.advance.new.backend) _ _ _ c.in-Deed.is (c.in_ok-completion-in-Deed.ensures.ends no_places 0) c.in_ok-advanced-in-Deed.ensures.lost
