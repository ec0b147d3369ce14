use Rattle.std.proofs.Common.{subst}
use Rattle.ts_sessions.specs.Deeds.{Forgets}
use Rattle.ts_sessions.specs.Held.{places_in}
use Rattle.ts_sessions.specs.Sessions.{Spares, finish_meant}
use Rattle.ts_sessions.specs.Step.{performs}
use Rattle.ts_sessions.proofs.EndLaws.{broken_by}
use Rattle.ts_sessions.proofs.FirstLaws.{carried}
use Rattle.ts_sessions.proofs.HoldLaws.{goes_ended}
use Rattle.ts_sessions.proofs.SessionLaws.{carried_places, kept_held, on_err, spared}
use Rattle.ts_sessions.proofs.WalkLaws.{goes_breaks}
use Rattle.ts_sessions.proofs.sessions.Session.perform.Goals as goal

-- ---- out of memory before anything was done

pub returns-in_err-next-clause-ends : goal.returns-in_err-next-clause-ends
returns-in_err-next-clause-ends g c =
    let p = places_in c.args.self.now in
    let w = c.in_err-next.ensures.opens in
    broken_by g.B.Backend.alone (g.B.Backend.state c.args.backend.now) (performs p c.args.bytes c.args.stmt.now) p c.from_residual.result _ _ _ c.from_residual.ensures.0 w.1 w.0

pub returns-in_err-next-clause-spared : goal.returns-in_err-next-clause-spared
returns-in_err-next-clause-spared g c =
    let s = c.args.self.now in
    let t = c.first.new.self in
    let meant = finish_meant (places_in s) c.args.stmt.now in
    on_err (Spares meant (places_in s) (places_in t)) c.from_residual.result (spared meant (places_in s) (places_in t) (carried_places s t c.in_err-next.ensures.kept))

pub returns-in_err-next-clause-holds : goal.returns-in_err-next-clause-holds
returns-in_err-next-clause-holds g c =
    let old = g.B.Backend.state c.args.backend.now in
    let k = c.in_err-next.ensures.kept in
    kept_held g.T.Shown g.met.T.Shown.fits_on c.args.self.now c.first.new.self old _ k.block k.held (goes_breaks g.B.Backend.alone old (performs (places_in c.args.self.now) c.args.bytes c.args.stmt.now) _ c.in_err-next.ensures.opens.0) c.requires.holds

-- ---- the first step was carried out

pub carry_out-requires-clause-fits : goal.carry_out-requires-clause-fits
carry_out-requires-clause-fits g c = λ _ _. (c.args.bytes, c.in_ok-next.ensures.opens.fits)

pub returns-in-Ok-clause-ends : goal.returns-in-Ok-clause-ends
returns-in-Ok-clause-ends g c =
    let p = places_in c.args.self.now in
    carried g.T.Shown c.args.bytes g.B.Backend.alone (g.B.Backend.state c.args.backend.now) p (performs p c.args.bytes c.args.stmt.now) c.in_ok-next.next _ _ _ _ _ _ c.requires.counts c.in_ok-next.ensures.opens (λ had. c.in-Ok.ensures.ends p had)

pub returns-in-Ok-clause-change : goal.returns-in-Ok-clause-change
returns-in-Ok-clause-change g c = c.in-Ok.ensures.change c.args.bytes c.in_ok-next.ensures.opens.fits

pub returns-in-Ok-clause-holds : goal.returns-in-Ok-clause-holds
returns-in-Ok-clause-holds g c =
    let old = g.B.Backend.state c.args.backend.now in
    let p = places_in c.args.self.now in
    let w = carried g.T.Shown c.args.bytes g.B.Backend.alone old p (performs p c.args.bytes c.args.stmt.now) c.in_ok-next.next _ _ _ _ _ _ c.requires.counts c.in_ok-next.ensures.opens (λ had. c.in-Ok.ensures.ends p had) in
    c.in_ok-next.ensures.takes.holds old _ c.requires.holds (goes_ended g.B.Backend.alone old (performs p c.args.bytes c.args.stmt.now) p _ _ _ _ w) c.in-Ok.ensures.lost

pub returns-in-Err-clause-ends : goal.returns-in-Err-clause-ends
returns-in-Err-clause-ends g c =
    let p = places_in c.args.self.now in
    carried g.T.Shown c.args.bytes g.B.Backend.alone (g.B.Backend.state c.args.backend.now) p (performs p c.args.bytes c.args.stmt.now) c.in_ok-next.next _ _ _ _ _ _ c.requires.counts c.in_ok-next.ensures.opens (λ had. c.in-Err.ensures.ends p had)

pub returns-in-Err-clause-spared : goal.returns-in-Err-clause-spared
returns-in-Err-clause-spared g c =
    (c.in_ok-next.ensures.takes.broken c.give_up.new.self (subst (λ o. Forgets o c.first.new.self c.give_up.new.self) c.cut_taken-taken.ensures c.give_up.ensures.forgets)).0

pub returns-in-Err-clause-holds : goal.returns-in-Err-clause-holds
returns-in-Err-clause-holds g c =
    let old = g.B.Backend.state c.args.backend.now in
    let p = places_in c.args.self.now in
    let w = carried g.T.Shown c.args.bytes g.B.Backend.alone old p (performs p c.args.bytes c.args.stmt.now) c.in_ok-next.next _ _ _ _ _ _ c.requires.counts c.in_ok-next.ensures.opens (λ had. c.in-Err.ensures.ends p had) in
    (c.in_ok-next.ensures.takes.broken c.give_up.new.self (subst (λ o. Forgets o c.first.new.self c.give_up.new.self) c.cut_taken-taken.ensures c.give_up.ensures.forgets)).1 old _ c.requires.holds (goes_ended g.B.Backend.alone old (performs p c.args.bytes c.args.stmt.now) p _ _ _ _ w)
