use Rattle.std.proofs.Common.{◌≤◌, ◌∙◌, arith, sym}
use Rattle.audit_past.proofs.TellDeeds.{nothing_is, went_is}
use Rattle.audit_past.proofs.TellWalks.{look_lies}
use Rattle.audit_past.proofs.TellStatements.{held_nothing, held_told, tells_held}
use Rattle.audit_past.proofs.statements.replay_held.Goals as goal

pub go_on-requires-clause-known : goal.go_on-requires-clause-known
go_on-requires-clause-known g c κs within =
    let all = g.P.Past.all c.args.past.now in
    let look = c.in-Some.look in
    let low : c.args.point.at ≤ look = (look_lies all c.args.point.at look c.args.point.looks.now (sym c.next_look.ensures ∙ c.in-Some.is)).low in
    let up : look ≤ c.in-Some-2.went.at = (went_is g.P.Shot.Shown all look 1 (tells_held all look c.args.cut c.args.snap) c.in_ok-follow_met-in-Some.field-0 c.in-Some-2.went c.in-Some-2.is (c.in_ok-follow_met-in-Some.ensures all look 1 (tells_held all look c.args.cut c.args.snap) c.finish-met.ensures)).low in
    let known : g.P.Past.from c.args.past.now ≤ c.args.point.at = c.requires.known in
    omega (arith, known, low, up)

pub go_on-requires-clause-within : goal.go_on-requires-clause-within
go_on-requires-clause-within g c κs within =
    let all = g.P.Past.all c.args.past.now in
    let look = c.in-Some.look in
    (went_is g.P.Shot.Shown all look 1 (tells_held all look c.args.cut c.args.snap) c.in_ok-follow_met-in-Some.field-0 c.in-Some-2.went c.in-Some-2.is (c.in_ok-follow_met-in-Some.ensures all look 1 (tells_held all look c.args.cut c.args.snap) c.finish-met.ensures)).high

pub go_on-requires-clause-stands : goal.go_on-requires-clause-stands
go_on-requires-clause-stands g c κs within =
    let all = g.P.Past.all c.args.past.now in
    let look = c.in-Some.look in
    (0, (went_is g.P.Shot.Shown all look 1 (tells_held all look c.args.cut c.args.snap) c.in_ok-follow_met-in-Some.field-0 c.in-Some-2.went c.in-Some-2.is (c.in_ok-follow_met-in-Some.ensures all look 1 (tells_held all look c.args.cut c.args.snap) c.finish-met.ensures)).stands 0)

pub returns-in-None-2 : goal.returns-in-None-2
returns-in-None-2 g c = λ p bytes.
    let all = g.P.Past.all c.args.past.now in
    let look = c.in-Some.look in
    held_nothing all c.args.point.at look c.args.point.looks.now p c.args.cut c.args.snap (sym c.next_look.ensures ∙ c.in-Some.is) (nothing_is g.P.Shot.Shown all look 1 (tells_held all look c.args.cut c.args.snap) c.in_ok-follow_met-in-Some.field-0 c.in-None-2.is (c.in_ok-follow_met-in-Some.ensures all look 1 (tells_held all look c.args.cut c.args.snap) c.finish-met.ensures))

pub returns-in-Some-2 : goal.returns-in-Some-2
returns-in-Some-2 g c = λ p bytes.
    let all = g.P.Past.all c.args.past.now in
    let look = c.in-Some.look in
    let went = went_is g.P.Shot.Shown all look 1 (tells_held all look c.args.cut c.args.snap) c.in_ok-follow_met-in-Some.field-0 c.in-Some-2.went c.in-Some-2.is (c.in_ok-follow_met-in-Some.ensures all look 1 (tells_held all look c.args.cut c.args.snap) c.finish-met.ensures) in
    held_told g.P.Shot.Shown bytes all c.args.point.at look c.args.point.looks.now c.after_next.result.now p c.args.cut c.args.snap c.in-Some-2.went c.go_on.result (sym c.next_look.ensures ∙ c.in-Some.is) c.after_next.ensures went (λ read. c.go_on.ensures p read bytes (went.stands bytes))
