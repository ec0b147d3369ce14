use Rattle.std.proofs.Common.{◌∙◌, sym}
use Rattle.stmt_syntax.specs.declared.statements.Stmt.TheVariants as stmts
use Rattle.ts_sessions.specs.Held.{places_in}
use Rattle.ts_sessions.proofs.BlockWalks.{finishes_outside, passes_as}
use Rattle.ts_sessions.proofs.OpeningLaws.{finish_first, names_first}
use Rattle.audit_past.proofs.TellStatements.{finish_held, finish_told, finish_unheld, finish_unmeant, opening_stands, opening_told}
use Rattle.audit_past.proofs.statements.replay_statement.Goals as goal

pub go_on-requires-clause-stands : goal.go_on-requires-clause-stands
go_on-requires-clause-stands g c κs within = (0, opening_stands g.T.Shown 0 (g.P.Past.all c.args.past.now) c.args.point.at c.args.point.looks.now (places_in c.args.session.now) 0 c.args.stmt.now c.in-Next.next (sym c.in_ok-opening.ensures ∙ c.in-Next.is))

pub returns-in-Next : goal.returns-in-Next
returns-in-Next g c =
    let p = places_in c.args.session.now in
    opening_told g.T.Shown c.args.bytes (g.P.Past.all c.args.past.now) c.args.point.at c.args.point.looks.now p c.args.stmt.now c.in-Next.next c.go_on.result (sym c.in_ok-opening.ensures ∙ c.in-Next.is) c.requires.passes (λ n k. c.go_on.ensures p 0 n k)

pub replay_names-requires-clause-names : goal.replay_names-requires-clause-names
replay_names-requires-clause-names g c κs within = names_first {T = _} {J = _} (places_in c.args.session.now) c.args.stmt.now (sym c.in_ok-opening.ensures ∙ c.in-Names.is)

-- ---- the finish of a refresh

pub returns-in-None : goal.returns-in-None
returns-in-None g c =
    let p = places_in c.args.session.now in
    let all = g.P.Past.all c.args.past.now in
    let is = finish_first {T = _} {J = _} p c.args.stmt.now c.in-Finish.number (sym c.in_ok-opening.ensures ∙ c.in-Finish.is) in
    finish_told g.T.Shown c.args.bytes all c.args.point.at c.args.point.looks.now p c.args.stmt.now c.go_on-in-None.result (finishes_outside p.block (passes_as p.block c.args.stmt.now (stmts.Finish c.in-Finish.number) is c.requires.passes)) c.in-Finish.number is
    (finish_unmeant g.T.Shown c.args.bytes all c.args.point.at c.args.point.looks.now p c.in-Finish.number c.go_on-in-None.result (sym c.refresh_named.ensures ∙ c.in-None.is) (c.go_on-in-None.ensures p 0 c.args.bytes tt))

pub returns-in-None-held_at : goal.returns-in-None-held_at
returns-in-None-held_at g c =
    let p = places_in c.args.session.now in
    let all = g.P.Past.all c.args.past.now in
    let is = finish_first {T = _} {J = _} p c.args.stmt.now c.in-Finish.number (sym c.in_ok-opening.ensures ∙ c.in-Finish.is) in
    finish_told g.T.Shown c.args.bytes all c.args.point.at c.args.point.looks.now p c.args.stmt.now c.go_on-in-None-held_at.result (finishes_outside p.block (passes_as p.block c.args.stmt.now (stmts.Finish c.in-Finish.number) is c.requires.passes)) c.in-Finish.number is
    (finish_unheld g.T.Shown c.args.bytes all c.args.point.at c.args.point.looks.now p c.in-Finish.number c.in-Some.cut c.go_on-in-None-held_at.result (sym c.refresh_named.ensures ∙ c.in-Some.is) (sym c.held_at.ensures ∙ c.in-None-held_at.is) (c.go_on-in-None-held_at.ensures p 0 c.args.bytes tt))

pub returns-in-Some-held_at : goal.returns-in-Some-held_at
returns-in-Some-held_at g c =
    let p = places_in c.args.session.now in
    let all = g.P.Past.all c.args.past.now in
    let is = finish_first {T = _} {J = _} p c.args.stmt.now c.in-Finish.number (sym c.in_ok-opening.ensures ∙ c.in-Finish.is) in
    finish_told g.T.Shown c.args.bytes all c.args.point.at c.args.point.looks.now p c.args.stmt.now c.replay_held.result (finishes_outside p.block (passes_as p.block c.args.stmt.now (stmts.Finish c.in-Finish.number) is c.requires.passes)) c.in-Finish.number is
    (finish_held g.T.Shown c.args.bytes all c.args.point.at c.args.point.looks.now p c.in-Finish.number c.in-Some.cut c.in-Some-held_at.snap c.replay_held.result (sym c.refresh_named.ensures ∙ c.in-Some.is) (sym c.held_at.ensures ∙ c.in-Some-held_at.is) (c.replay_held.ensures p c.args.bytes))
