use Rattle.std.proofs.Common.{◌≡◌, sym, subst}
use Rattle.std.specs.Prelude.{OnOk}
use Rattle.ts_sessions.specs.Held.{HoldsOf, places_in}
use Rattle.ts_sessions.specs.Sessions.{ChangeHolds, places_after}
use Rattle.ts_sessions.proofs.SessionLaws.{carried_held, gone_held, gone_places, held_either, on_ok_by, put_held, put_places}
use Rattle.ts_sessions.proofs.sessions.Session.settle.Goals as goal

pub returns-in-Holds-clause-places : goal.returns-in-Holds-clause-places
returns-in-Holds-clause-places g c =
    let s = c.args.self.now in
    subst (λ x. OnOk c.hold.result (places_in c.hold.new.self ≡ places_after x (places_in s))) (sym c.in-Holds.is)
    (on_ok_by c.hold.result _ _ (λ e. put_places s c.hold.new.self c.in-Holds.cut c.in-Holds.at c.in-Holds.job c.hold.ensures.block c.hold.ensures.cut e) c.hold.ensures.held)

pub returns-in-Holds-clause-holds : goal.returns-in-Holds-clause-holds
returns-in-Holds-clause-holds g c = λ state bytes held brought.
    let T = g.T.Shown in
    let s = c.args.self.now in
    let b = subst (λ x. ChangeHolds T bytes x state.history) c.in-Holds.is brought in
    held_either c.hold.result (HoldsOf T c.hold.new.self state) _ _
    (λ e. put_held T s c.hold.new.self state c.in-Holds.cut c.in-Holds.at c.in-Holds.job c.hold.ensures.block e held b)
    (λ k. carried_held T s c.hold.new.self state k held) c.hold.ensures.held c.hold.ensures.kept

pub returns-in-GivesUp-clause-places : goal.returns-in-GivesUp-clause-places
returns-in-GivesUp-clause-places g c =
    let s = c.args.self.now in
    subst (λ x. places_in c.forget.new.self ≡ places_after x (places_in s)) (sym c.in-GivesUp.is) (gone_places s c.forget.new.self c.in-GivesUp.cut c.forget.ensures.block c.forget.ensures.cut c.forget.ensures.held)

pub returns-in-GivesUp-clause-holds : goal.returns-in-GivesUp-clause-holds
returns-in-GivesUp-clause-holds g c = λ state bytes held brought.
    let T = g.T.Shown in
    gone_held T c.args.self.now c.forget.new.self state c.in-GivesUp.cut c.forget.ensures.block c.forget.ensures.held held
