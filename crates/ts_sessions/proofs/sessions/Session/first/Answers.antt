use Rattle.std.proofs.Common.{◌∙◌, ap, arith, false, refl, subst, sym}
use Rattle.std.specs.Prelude.{Ok}
use Rattle.ts_sessions.specs.declared.deeds.Next.TheVariants as nexts
use Rattle.stmt_syntax.specs.declared.statements.Stmt.TheVariants as stmts
use Rattle.ts_sessions.specs.Deeds.{Opens, Takes, rest_next}
use Rattle.ts_sessions.specs.Held.{places_in}
use Rattle.ts_sessions.specs.Procedures.{looks}
use Rattle.ts_sessions.specs.Sessions.{finish_meant}
use Rattle.ts_sessions.specs.Step.{finishes, turn_of_names, performs, read_at, refresh_meant}
use Rattle.ts_sessions.proofs.BlockWalks.{finishes_outside, passes_as}
use Rattle.ts_sessions.proofs.DeedWalks.{leads_then}
use Rattle.ts_sessions.proofs.FirstLaws.{opens_broken, opens_here, performs_looks}
use Rattle.ts_sessions.proofs.HeldDeeds.{takes_none, takes_nothing}
use Rattle.ts_sessions.proofs.WalkLaws.{not_begun}
use Rattle.ts_sessions.proofs.OpeningLaws.{finish_first, names_first, next_first}
use Rattle.ts_sessions.proofs.sessions.Session.first.Goals as goal

-- ---- statements without names

pub returns-in_err-opening-clause-opens : goal.returns-in_err-opening-clause-opens
returns-in_err-opening-clause-opens g c =
    let p = places_in c.args.self.now in
    let old = g.B.Backend.state c.args.backend.now in
    opens_broken g.T.Shown c.args.bytes g.B.Backend.alone old (performs p c.args.bytes c.args.stmt.now) p c.from_residual.result old c.args.steps.now c.args.steps.now c.from_residual.ensures.0 (omega arith) (not_begun g.B.Backend.alone old _)

pub returns-in-Next-clause-opens : goal.returns-in-Next-clause-opens
returns-in-Next-clause-opens g c =
    let p = places_in c.args.self.now in
    let old = g.B.Backend.state c.args.backend.now in
    let k = next_first g.T.Shown c.args.bytes old p c.args.stmt.now c.in-Next.next c.args.self.now.block (sym c.in_ok-opening.ensures ∙ c.in-Next.is) c.requires.passes refl c.requires.holds.block in
    opens_here g.T.Shown c.args.bytes g.B.Backend.alone old (performs p c.args.bytes c.args.stmt.now) p c.in-Next.next c.args.steps.now c.requires.counts (k.stands g.B.Backend.alone) k.fits

pub returns-in-Next-clause-takes : goal.returns-in-Next-clause-takes
returns-in-Next-clause-takes g c =
    let p = places_in c.args.self.now in
    let k = next_first g.T.Shown c.args.bytes (g.B.Backend.state c.args.backend.now) p c.args.stmt.now c.in-Next.next c.args.self.now.block (sym c.in_ok-opening.ensures ∙ c.in-Next.is) c.requires.passes refl c.requires.holds.block in
    takes_nothing g.T.Shown g.met.T.Shown.fits_on (finish_meant p c.args.stmt.now) c.in-Next.next c.args.self.now c.args.self.now k.taken refl refl refl

-- ---- a refresh that is finished

pub returns-in-Finish-clause-opens : goal.returns-in-Finish-clause-opens
returns-in-Finish-clause-opens g c =
    let alone = g.B.Backend.alone in
    let old = g.B.Backend.state c.args.backend.now in
    let p = places_in c.args.self.now in
    let n = c.args.steps.now in
    let number = c.in-Finish.number in
    let next = nexts.Deed c.finish.result in
    let stmt = stmts.Finish number in
    let is = finish_first {T = _} {J = _} p c.args.stmt.now number (sym c.in_ok-opening.ensures ∙ c.in-Finish.is) in
    let outside = finishes_outside p.block (passes_as p.block c.args.stmt.now stmt is c.requires.passes) in
    let left = looks (λ h. finishes p h (refresh_meant p number)) in
    subst (λ x. Opens g.T.Shown c.args.bytes alone old (performs p c.args.bytes x) p next old n n) (sym is)
    (opens_here g.T.Shown c.args.bytes alone old (performs p c.args.bytes stmt) p next n c.requires.counts
    (leads_then alone false old (performs p c.args.bytes stmt) old left old (rest_next p 0 next)
    (performs_looks alone old p c.args.bytes stmt (λ h. finishes p h (refresh_meant p number)) refl (λ h on. ap (λ b. turn_of_names p c.args.bytes stmt (read_at b h)) outside))
    (c.finish.ensures.stands old c.requires.holds alone))
    (c.finish.ensures.fits old c.requires.holds))

pub returns-in-Finish-clause-takes : goal.returns-in-Finish-clause-takes
returns-in-Finish-clause-takes g c =
    let p = places_in c.args.self.now in
    let is = finish_first {T = _} {J = _} p c.args.stmt.now c.in-Finish.number (sym c.in_ok-opening.ensures ∙ c.in-Finish.is) in
    subst (λ x. Takes g.T.Shown (finish_meant p x) (nexts.Deed c.finish.result) c.args.self.now c.finish.new.self) (sym is) c.finish.ensures.takes

-- ---- names

pub resolve_names-requires-clause-names : goal.resolve_names-requires-clause-names
resolve_names-requires-clause-names g c κs within = names_first {T = _} {J = _} (places_in c.args.self.now) c.args.stmt.now (sym c.in_ok-opening.ensures ∙ c.in-Names.is)

pub returns-in-Names-clause-takes : goal.returns-in-Names-clause-takes
returns-in-Names-clause-takes g c = takes_none g.T.Shown g.met.T.Shown.fits_on (finish_meant (places_in c.args.self.now) c.args.stmt.now) c.resolve_names.result c.args.self.now c.resolve_names.ensures.taken
