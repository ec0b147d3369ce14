use Rattle.std.proofs.Common.{◌≡◌, ◌∙◌, true, ap, refl, rules, subst, sym}
use Rattle.std.specs.Prelude.{IsTrue}
use Rattle.ts_model.specs.Allowed.{QueueFits, all_allowed}
use Rattle.ts_model.specs.History.{prefix}
use Rattle.ts_sessions.specs.Held.{HoldsBlock, block_of, places_in}
use Rattle.ts_sessions.specs.ResolvedNames.{looks_at_names}
use Rattle.ts_sessions.specs.Places.{queue_in, reading}
use Rattle.ts_sessions.specs.Step.{kind_of, read_at}
use Rattle.audit_past.specs.ReplaySteps.{state_of}
use Rattle.ts_sessions.proofs.SoundLaws.{allowed_prefix}
use Rattle.audit_past.proofs.TellStatements.{names_stand, names_told, query_read, query_stands}
use Rattle.audit_past.proofs.statements.replay_names.Goals as goal

-- ---- outside a block

pub resolve_at-requires-clause-stands : goal.resolve_at-requires-clause-stands
resolve_at-requires-clause-stands g c κs within =
    let all = g.P.Past.all c.args.past.now in
    let outside = ap block_of c.in-Nothing.is in
    let h = prefix all c.in-Some.look in
    record { history = h; holds = c.in_ok-there-in-Some.ensures; allowed = allowed_prefix all c.in-Some.look c.requires.allowed; fits = subst (λ b. QueueFits (queue_in b) h) (sym outside) tt }

pub go_on-requires-clause-stands : goal.go_on-requires-clause-stands
go_on-requires-clause-stands g c κs within =
    let all = g.P.Past.all c.args.past.now in
    let outside = ap block_of c.in-Nothing.is in
    let look = c.in-Some.look in
    let h = prefix all look in
    let b = (places_in c.args.session.now).block in
    let here : read_at b h ≡ h = ap (λ x. read_at x h) outside in
    let opens = c.in_ok-next-in-Some.ensures.opens (state_of h) true (subst (g.T.Shown.stands c.in_ok-there-in-Some.there) (sym here) c.in_ok-there-in-Some.ensures) (subst (λ x. IsTrue (all_allowed x)) (sym here) (allowed_prefix all look c.requires.allowed)) in
    (c.args.bytes, names_stand g.T.Shown c.args.bytes all look b c.in_ok-next-in-Some.next outside (c.in_ok-next-in-Some.ensures.leaves h c.in_ok-there-in-Some.ensures).left opens.fits)

pub returns-in_ok-next-in-Some : goal.returns-in_ok-next-in-Some
returns-in_ok-next-in-Some g c =
    let all = g.P.Past.all c.args.past.now in
    let outside = ap block_of c.in-Nothing.is in
    let look = c.in-Some.look in
    let h = prefix all look in
    let p = places_in c.args.session.now in
    let here : read_at p.block h ≡ h = ap (λ x. read_at x h) outside in
    let opens = c.in_ok-next-in-Some.ensures.opens (state_of h) true (subst (g.T.Shown.stands c.in_ok-there-in-Some.there) (sym here) c.in_ok-there-in-Some.ensures) (subst (λ x. IsTrue (all_allowed x)) (sym here) (allowed_prefix all look c.requires.allowed)) in
    let left = c.in_ok-next-in-Some.ensures.leaves h c.in_ok-there-in-Some.ensures in
    names_told g.T.Shown c.args.bytes all look c.args.point.at c.args.point.looks.now p c.args.stmt.now (sym c.next_look.ensures ∙ c.in-Some.is) outside c.requires.names c.in_ok-next-in-Some.next c.go_on.result left
    (λ read. c.go_on.ensures p read c.args.bytes (names_stand g.T.Shown c.args.bytes all look p.block c.in_ok-next-in-Some.next outside left.left opens.fits))

-- ---- in a write block

pub returns-in-Changes : goal.returns-in-Changes
returns-in-Changes g c =
    let queue = c.in-Write.queue in
    c.replay_change.ensures (places_in c.args.session.now) queue.ops queue.bytes (ap block_of c.in-Write.is)

pub replay_query-requires-clause-waits : goal.replay_query-requires-clause-waits
replay_query-requires-clause-waits g c κs within =
    (subst (λ o. HoldsBlock g.T.Shown.stands o (g.P.Past.all c.args.past.now)) c.in-Write.is c.requires.holds.block).0

pub replay_query-requires-clause-room : goal.replay_query-requires-clause-room
replay_query-requires-clause-room g c κs within =
    (subst (λ o. HoldsBlock g.T.Shown.stands o (g.P.Past.all c.args.past.now)) c.in-Write.is c.requires.holds.block).1

pub returns-in-Asks : goal.returns-in-Asks
returns-in-Asks g c = c.replay_query.ensures (places_in c.args.session.now) (ap block_of c.in-Write.is)

-- ---- queries of a read block

pub go_on-requires-in-Read-clause-stands : goal.go_on-requires-in-Read-clause-stands
go_on-requires-in-Read-clause-stands g c κs within =
    let all = g.P.Past.all c.args.past.now in
    let b = (places_in c.args.session.now).block in
    let held = subst (λ o. HoldsBlock g.T.Shown.stands o all) c.in-Read.is c.requires.holds.block in
    let block : b ≡ reading c.in-Read._begun = ap block_of c.in-Read.is in
    let here : read_at b all ≡ prefix all c.in-Read._begun = ap (λ x. read_at x all) block in
    let opens = c.in_ok-next-in-Read.ensures.opens (state_of all) true (subst (g.T.Shown.stands c.in-Read.shot) (sym here) held.0) (subst (λ x. IsTrue (all_allowed x)) (sym here) held.2) in
    (c.args.bytes, query_stands g.T.Shown c.args.bytes all c.args.point.at c.in-Read._begun b c.in_ok-next-in-Read.next block (c.in_ok-next-in-Read.ensures.leaves (prefix all c.in-Read._begun) held.0).left opens.fits)

pub returns-in_ok-next-in-Read : goal.returns-in_ok-next-in-Read
returns-in_ok-next-in-Read g c =
    let all = g.P.Past.all c.args.past.now in
    let p = places_in c.args.session.now in
    let held = subst (λ o. HoldsBlock g.T.Shown.stands o all) c.in-Read.is c.requires.holds.block in
    let block : p.block ≡ reading c.in-Read._begun = ap block_of c.in-Read.is in
    let here : read_at p.block all ≡ prefix all c.in-Read._begun = ap (λ x. read_at x all) block in
    let opens = c.in_ok-next-in-Read.ensures.opens (state_of all) true (subst (g.T.Shown.stands c.in-Read.shot) (sym here) held.0) (subst (λ x. IsTrue (all_allowed x)) (sym here) held.2) in
    let left = c.in_ok-next-in-Read.ensures.leaves (prefix all c.in-Read._begun) held.0 in
    query_read g.T.Shown c.args.bytes all c.args.point.at c.args.point.looks.now p c.args.stmt.now c.go_on-in-Read.result c.in-Read._begun c.in_ok-next-in-Read.next block c.requires.names c.requires.passes left
    (λ read. c.go_on-in-Read.ensures p read c.args.bytes (query_stands g.T.Shown c.args.bytes all c.args.point.at c.in-Read._begun p.block c.in_ok-next-in-Read.next block left.left opens.fits))
