use Rattle.std.proofs.Common.{◌≤◌, ◌∙◌, sym, arith}
use Rattle.ts_model.specs.History.{prefix}
use Rattle.ts_sessions.specs.Deeds.{left, rest}
use Rattle.audit_past.specs.ReplaySteps.{after_look, later_looks}
use Rattle.audit_past.proofs.TellDeeds.{deed_asks, next_asks, nothing_is, went_ends, went_is, went_nowhere, went_on, went_to_nothing}
use Rattle.audit_past.proofs.TellWalks.{look_lies}
use Rattle.audit_past.proofs.deed_replays.+go_on.Goals as goal

-- ---- the end

pub returns-in-End : goal.returns-in-End
returns-in-End g t c = λ p read bytes k.
    went_ends g.P.Shot.Shown bytes c.args.said (g.P.Past.all c.args.past.now) c.args.point.at c.args.point.looks.now p read c.args.next c.in-End.completion c.led_by.result c.in-End.is c.requires.within k c.led_by.ensures

-- ---- a store call

pub act-requires-clause-asks : goal.act-requires-clause-asks
act-requires-clause-asks g t c = λ _ _.
    let all = g.P.Past.all c.args.past.now in
    deed_asks all c.args.point.at c.in-Some.look c.args.point.looks.now c.in-Deed.deed (sym c.next_look.ensures ∙ c.in-Some.is) (next_asks g.P.Shot.Shown c.requires.stands.0 all c.args.point.at c.args.next c.in-Deed.deed c.in-Deed.is c.requires.stands.1)

pub returns-in-None : goal.returns-in-None
returns-in-None g t c = λ p read bytes k.
    went_nowhere c.args.said (g.P.Past.all c.args.past.now) c.args.point.at c.args.point.looks.now p read c.args.next c.in-Deed.deed c.in-Deed.is (sym c.next_look.ensures ∙ c.in-None.is)

pub returns-in-None-2 : goal.returns-in-None-2
returns-in-None-2 g t c = λ p read bytes k.
    let all = g.P.Past.all c.args.past.now in
    let d = c.in-Deed.deed in
    let look = c.in-Some.look in
    went_to_nothing c.args.said all c.args.point.at look c.args.point.looks.now p read c.args.next d c.in-Deed.is (sym c.next_look.ensures ∙ c.in-Some.is)
    (nothing_is g.P.Shot.Shown all look (left d) (λ q n. after_look (prefix all look) (rest q n d)) c.in_ok-act-in-Some.field-0 c.in-None-2.is c.in_ok-act-in-Some.ensures p read (later_looks c.args.point.looks.now))

-- ---- what follows it

pub go_on-requires-clause-known : goal.go_on-requires-clause-known
go_on-requires-clause-known g t c = λ _ _.
    let all = g.P.Past.all c.args.past.now in
    let d = c.in-Deed.deed in
    let look = c.in-Some.look in
    let low : c.args.point.at ≤ look = (look_lies all c.args.point.at look c.args.point.looks.now (sym c.next_look.ensures ∙ c.in-Some.is)).low in
    let up : look ≤ c.in-Some-2.went.at = (went_is g.P.Shot.Shown all look (left d) (λ q n. after_look (prefix all look) (rest q n d)) c.in_ok-act-in-Some.field-0 c.in-Some-2.went c.in-Some-2.is c.in_ok-act-in-Some.ensures).low in
    let known : g.P.Past.from c.args.past.now ≤ c.args.point.at = c.requires.known in
    omega (arith, known, low, up)

pub go_on-requires-clause-stands : goal.go_on-requires-clause-stands
go_on-requires-clause-stands g t c = λ _ _.
    let all = g.P.Past.all c.args.past.now in
    let d = c.in-Deed.deed in
    let look = c.in-Some.look in
    (0, (went_is g.P.Shot.Shown all look (left d) (λ q n. after_look (prefix all look) (rest q n d)) c.in_ok-act-in-Some.field-0 c.in-Some-2.went c.in-Some-2.is c.in_ok-act-in-Some.ensures).stands 0)

pub returns-in_ok-reached-in-Some-2 : goal.returns-in_ok-reached-in-Some-2
returns-in_ok-reached-in-Some-2 g t c = λ p read bytes k.
    let all = g.P.Past.all c.args.past.now in
    let d = c.in-Deed.deed in
    let look = c.in-Some.look in
    let went = went_is g.P.Shot.Shown all look (left d) (λ q n. after_look (prefix all look) (rest q n d)) c.in_ok-act-in-Some.field-0 c.in-Some-2.went c.in-Some-2.is c.in_ok-act-in-Some.ensures in
    went_on g.P.Shot.Shown bytes c.args.said all c.args.point.at look (left d) c.args.point.looks.now c.after_next.result.now p read c.args.next d c.in-Some-2.went c.in_ok-reached-in-Some-2.reached c.led_by-in-Some-2.result c.requires.within c.in-Deed.is (sym c.next_look.ensures ∙ c.in-Some.is) c.after_next.ensures went
    (λ n. c.in_ok-reached-in-Some-2.ensures p n bytes (went.stands bytes)) c.led_by-in-Some-2.ensures
