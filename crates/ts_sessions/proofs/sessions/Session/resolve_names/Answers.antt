use Rattle.std.proofs.Common.{◌≡◌, ap, refl, sym, subst, inl, inr, arith}
use Rattle.std.specs.Prelude.{◌⊎◌, IsTrue}
use Rattle.ts_model.specs.Allowed.{QueueFits, all_allowed}
use Rattle.ts_model.specs.History.{History, prefix}
use Rattle.ts_sessions.specs.declared.blocks.Open.{Open}
use Rattle.ts_sessions.specs.declared.blocks.Open.TheVariants as opens
use Rattle.ts_sessions.specs.declared.blocks.Queue.{Queue}
use Rattle.ts_sessions.specs.Held.{HoldsBlock, block_of, places_in}
use Rattle.ts_sessions.specs.Holding.{block_on}
use Rattle.ts_sessions.specs.ResolvedNames.{left_of}
use Rattle.ts_sessions.specs.Places.{queue_in}
use Rattle.ts_sessions.specs.Step.{performs, read_at}
use Rattle.ts_sessions.proofs.FirstLaws.{opens_broken, opens_then}
use Rattle.ts_sessions.proofs.MeantLaws.{looked_broken, looked_leads}
use Rattle.ts_sessions.proofs.QueueLaws.{block_fits}
use Rattle.ts_sessions.proofs.StateLaws.{goes_seen, looked_reports, sees_looked}
use Rattle.ts_sessions.proofs.sessions.Session.resolve_names.Goals as goal

-- outside a read block the session reads the present history of the store
present : {T : Type 0} (o : Open T) (h : History) → (o ≡ opens.Nothing) ⊎ ((queue : Queue) × o ≡ opens.Write queue) → read_at (block_of o) h ≡ h
present o h (inl e) = ap (λ b. read_at (block_of b) h) e
present o h (inr w) = ap (λ b. read_at (block_of b) h) w.1

-- ---- in a read block

pub resolve_at-requires-clause-stands : goal.resolve_at-requires-clause-stands
resolve_at-requires-clause-stands g c = λ _ _.
    let old = g.B.Backend.state c.args.backend.now in
    let held = subst (λ b. HoldsBlock g.T.Shown.stands b old.history) c.in-Read.is c.requires.holds.block in
    record { history = prefix old.history c.in-Read.at; holds = held.0; allowed = held.2; fits = subst (λ b. QueueFits (queue_in (block_of b)) (prefix old.history c.in-Read.at)) (sym c.in-Read.is) tt }

pub returns-in-Read-clause-opens : goal.returns-in-Read-clause-opens
returns-in-Read-clause-opens g c =
    let alone = g.B.Backend.alone in
    let old = g.B.Backend.state c.args.backend.now in
    let p = places_in c.args.self.now in
    let stmt = c.args.stmt.now in
    let held = subst (λ b. HoldsBlock g.T.Shown.stands b old.history) c.in-Read.is c.requires.holds.block in
    let here = ap (λ b. read_at (block_of b) old.history) c.in-Read.is in
    let ok = subst (λ h. IsTrue (all_allowed h)) (sym here) held.2 in
    opens_then g.T.Shown c.args.bytes alone old (performs p c.args.bytes stmt) old (left_of g.T.Shown p c.args.bytes stmt (read_at p.block old.history)) p c.resolve_at.result old _ _
    (looked_leads g.T.Shown alone old old p c.args.bytes stmt c.requires.names c.requires.passes c.requires.sound ok (inl refl))
    (c.resolve_at.ensures.opens old alone (subst (g.T.Shown.stands c.in-Read.shot) (sym here) held.0) ok)

-- ---- outside a block, or in a write block

pub returns-in_err-shot-in-Nothing-clause-opens : goal.returns-in_err-shot-in-Nothing-clause-opens
returns-in_err-shot-in-Nothing-clause-opens g c =
    let alone = g.B.Backend.alone in
    let old = g.B.Backend.state c.args.backend.now in
    let mid = g.B.Backend.state c.snap.new.self in
    let p = places_in c.args.self.now in
    opens_broken g.T.Shown c.args.bytes alone old (performs p c.args.bytes c.args.stmt.now) p c.from_residual.result mid _ _ c.from_residual.ensures.0 (omega arith)
    (looked_broken alone old mid p c.args.bytes c.args.stmt.now (sees_looked alone old _ mid c.in_err-shot-in-Nothing.ensures.looked))

pub resolve_at-requires-in-Nothing-clause-stands : goal.resolve_at-requires-in-Nothing-clause-stands
resolve_at-requires-in-Nothing-clause-stands g c = λ _ _.
    let alone = g.B.Backend.alone in
    let old = g.B.Backend.state c.args.backend.now in
    let mid = g.B.Backend.state c.snap.new.self in
    let looked = c.in_ok-shot-in-Nothing.ensures.looked in
    let t = looked_reports alone old _ mid looked in
    let on = (goes_seen alone old mid (sees_looked alone old _ mid looked)).begins in
    let block = c.args.self.now.block in
    record { history = mid.history; holds = t.1; allowed = t.0; fits = block_fits g.T.Shown.stands block mid.history (block_on g.T.Shown.stands block old.history mid.history on c.requires.holds.block) }

pub returns-in_ok-shot-in-Nothing-clause-opens : goal.returns-in_ok-shot-in-Nothing-clause-opens
returns-in_ok-shot-in-Nothing-clause-opens g c =
    let alone = g.B.Backend.alone in
    let old = g.B.Backend.state c.args.backend.now in
    let mid = g.B.Backend.state c.snap.new.self in
    let p = places_in c.args.self.now in
    let stmt = c.args.stmt.now in
    let looked = c.in_ok-shot-in-Nothing.ensures.looked in
    let t = looked_reports alone old _ mid looked in
    let here : read_at p.block mid.history ≡ mid.history = present c.args.self.now.block mid.history c.in-Nothing.is in
    let ok = subst (λ h. IsTrue (all_allowed h)) (sym here) t.0 in
    opens_then g.T.Shown c.args.bytes alone old (performs p c.args.bytes stmt) mid (left_of g.T.Shown p c.args.bytes stmt (read_at p.block mid.history)) p c.resolve_at-in-Nothing.result mid _ _
    (looked_leads g.T.Shown alone old mid p c.args.bytes stmt c.requires.names c.requires.passes c.requires.sound ok (sees_looked alone old _ mid looked))
    (c.resolve_at-in-Nothing.ensures.opens mid alone (subst (g.T.Shown.stands c.in_ok-shot-in-Nothing.shot) (sym here) t.1) ok)
