use Rattle.std.proofs.Common.{refl, subst}
use Rattle.std.specs.Prelude.{Ok}
use Rattle.ts_sessions.specs.declared.deeds.Next.TheVariants as nexts
use Rattle.ts_sessions.specs.Held.{places_in}
use Rattle.ts_sessions.specs.Step.{read_at}
use Rattle.ts_sessions.proofs.FirstLaws.{refused_opens}
use Rattle.ts_sessions.proofs.LeftLaws.{left_changes, left_does, left_refused, left_shows}
use Rattle.ts_sessions.proofs.MeantLaws.{MeantFits, change_opens, change_passes, does_opens, meant_fits, plan_fits, seen_opens}
use Rattle.ts_sessions.proofs.SoundLaws.{is_numbered}
use Rattle.ts_sessions.proofs.sessions.Session.resolve_at.Goals as goal

pub resolve-requires-clause-numbered : goal.resolve-requires-clause-numbered
resolve-requires-clause-numbered g c =
    let s = c.requires.stands in
    is_numbered s.history c.roster.result.now (c.roster.ensures s.history s.holds) s.allowed

pub answer-requires-clause-formed : goal.answer-requires-clause-formed
answer-requires-clause-formed g c = λ _ _ h stands ok.
    let s = c.requires.stands in
    (plan_fits g.T.Shown c.args.bytes c.args.stmt.now s.history c.requires.sound s.allowed h _ _ c.in_ok-refusal.field-0 c.in-Shows.plan (c.position.ensures s.history s.holds) (c.roster.ensures s.history s.holds) (c.roster.ensures h stands) c.in_ok-refusal.ensures c.in-Shows.is).formed

pub answer-requires-clause-asks : goal.answer-requires-clause-asks
answer-requires-clause-asks g c = λ _ _ h stands.
    let s = c.requires.stands in
    (plan_fits g.T.Shown c.args.bytes c.args.stmt.now s.history c.requires.sound s.allowed h _ _ c.in_ok-refusal.field-0 c.in-Shows.plan (c.position.ensures s.history s.holds) (c.roster.ensures s.history s.holds) (c.roster.ensures h stands) c.in_ok-refusal.ensures c.in-Shows.is).asks

pub change-requires : goal.change-requires
change-requires g c =
    let s = c.requires.stands in
    change_passes g.T.Shown c.args.bytes c.args.stmt.now s.history c.requires.sound s.allowed (places_in c.args.self.now).block _ _ c.in_ok-refusal.field-0 c.in-Changes.op c.requires.passes (c.position.ensures s.history s.holds) (c.roster.ensures s.history s.holds) c.in_ok-refusal.ensures c.in-Changes.is

pub returns-in-Refused-clause-opens : goal.returns-in-Refused-clause-opens
returns-in-Refused-clause-opens g c = λ s alone stands ok.
    let p = places_in c.args.self.now in
    let h = read_at p.block s.history in
    seen_opens g.T.Shown c.args.bytes alone s p c.args.stmt.now h _ _ _ _ c.say.result _ _ (c.position.ensures h stands) (c.roster.ensures h stands) c.in_ok-refusal.ensures c.in-Refused.is
    (refused_opens g.T.Shown c.args.bytes alone s p c.in-Refused.refusal c.say.result _ c.requires.counts c.say.ensures)

pub returns-in-Shows-clause-opens : goal.returns-in-Shows-clause-opens
returns-in-Shows-clause-opens g c = λ s alone stands ok.
    let p = places_in c.args.self.now in
    let h = read_at p.block s.history in
    seen_opens g.T.Shown c.args.bytes alone s p c.args.stmt.now h _ _ _ _ c.answer.result _ _ (c.position.ensures h stands) (c.roster.ensures h stands) c.in_ok-refusal.ensures c.in-Shows.is (c.answer.ensures.opens h stands p c.args.bytes alone s refl)

pub returns-in-Changes-clause-opens : goal.returns-in-Changes-clause-opens
returns-in-Changes-clause-opens g c = λ s alone stands ok.
    let p = places_in c.args.self.now in
    let h = read_at p.block s.history in
    let m = c.in_ok-refusal.field-0 in
    let k = meant_fits g.T.Shown p.block c.args.bytes s c.args.stmt.now _ _ m c.requires.names c.requires.passes c.requires.sound ok (c.position.ensures h stands) (c.roster.ensures h stands) c.in_ok-refusal.ensures in
    seen_opens g.T.Shown c.args.bytes alone s p c.args.stmt.now h _ _ _ _ c.change.result _ _ (c.position.ensures h stands) (c.roster.ensures h stands) c.in_ok-refusal.ensures c.in-Changes.is
    (change_opens g.T.Shown c.args.bytes alone s p c.in-Changes.op c.change.result _ c.requires.counts (subst (MeantFits g.T.Shown p.block c.args.bytes s) c.in-Changes.is k)
    (change_passes g.T.Shown c.args.bytes c.args.stmt.now h c.requires.sound ok p.block _ _ m c.in-Changes.op c.requires.passes (c.position.ensures h stands) (c.roster.ensures h stands) c.in_ok-refusal.ensures c.in-Changes.is) c.change.ensures)

pub returns-in-Does-clause-opens : goal.returns-in-Does-clause-opens
returns-in-Does-clause-opens g c = λ s alone stands ok.
    let p = places_in c.args.self.now in
    let h = read_at p.block s.history in
    let m = c.in_ok-refusal.field-0 in
    let k = meant_fits g.T.Shown p.block c.args.bytes s c.args.stmt.now _ _ m c.requires.names c.requires.passes c.requires.sound ok (c.position.ensures h stands) (c.roster.ensures h stands) c.in_ok-refusal.ensures in
    seen_opens g.T.Shown c.args.bytes alone s p c.args.stmt.now h _ _ _ _ (Ok (nexts.Deed c.in-Does.deed)) _ _ (c.position.ensures h stands) (c.roster.ensures h stands) c.in_ok-refusal.ensures c.in-Does.is
    (does_opens g.T.Shown c.args.bytes alone s p c.in-Does.deed _ c.requires.counts (subst (MeantFits g.T.Shown p.block c.args.bytes s) c.in-Does.is k))

pub returns-in-Refused-clause-leaves : goal.returns-in-Refused-clause-leaves
returns-in-Refused-clause-leaves g c = λ h stands.
    let p = places_in c.args.self.now in
    let m = c.in_ok-refusal.field-0 in
    left_refused g.T.Shown p c.args.bytes c.args.stmt.now h _ _ m c.in-Refused.refusal c.say.result (c.position.ensures h stands) (c.roster.ensures h stands) c.in_ok-refusal.ensures c.in-Refused.is c.say.ensures

pub returns-in-Shows-clause-leaves : goal.returns-in-Shows-clause-leaves
returns-in-Shows-clause-leaves g c = λ h stands.
    let p = places_in c.args.self.now in
    let m = c.in_ok-refusal.field-0 in
    left_shows g.T.Shown p c.args.bytes c.args.stmt.now h _ _ m c.in-Shows.plan c.answer.result (c.position.ensures h stands) (c.roster.ensures h stands) c.in_ok-refusal.ensures c.in-Shows.is (c.answer.ensures.says h stands)

pub returns-in-Changes-clause-leaves : goal.returns-in-Changes-clause-leaves
returns-in-Changes-clause-leaves g c = λ h stands.
    let s = c.requires.stands in
    let p = places_in c.args.self.now in
    let m = c.in_ok-refusal.field-0 in
    left_changes g.T.Shown p c.args.bytes c.args.stmt.now h _ _ m c.in-Changes.op c.change.result (c.position.ensures h stands) (c.roster.ensures h stands) c.in_ok-refusal.ensures c.in-Changes.is (change_passes g.T.Shown c.args.bytes c.args.stmt.now s.history c.requires.sound s.allowed p.block _ _ m c.in-Changes.op c.requires.passes (c.position.ensures s.history s.holds) (c.roster.ensures s.history s.holds) c.in_ok-refusal.ensures c.in-Changes.is) c.change.ensures

pub returns-in-Does-clause-leaves : goal.returns-in-Does-clause-leaves
returns-in-Does-clause-leaves g c = λ h stands.
    let p = places_in c.args.self.now in
    let m = c.in_ok-refusal.field-0 in
    left_does g.T.Shown p c.args.bytes c.args.stmt.now h _ _ m c.in-Does.deed c.requires.names c.requires.passes (c.position.ensures h stands) (c.roster.ensures h stands) c.in_ok-refusal.ensures c.in-Does.is
