use Rattle.std.proofs.Common.{◌≡◌, ◌∙◌, None, Some, ap, sym}
use Rattle.ts_sessions.specs.Places.{held_for}
use Rattle.ts_sessions.proofs.JobLaws.{held_at, not_held}
use Rattle.ts_sessions.proofs.sessions.Session.held_at.Goals as goal

pub returns-in-Some : goal.returns-in-Some
returns-in-Some g c =
    let there : held_for c.args.cut c.args.self.now.held.entries ≡ Some c.in-Some.snapshot.now = sym c.in-Some.ensures.value in
    ap Some c.place.ensures ∙ sym (held_at c.args.cut c.args.self.now.held.entries c.in-Some.snapshot.now there)

pub returns-in-None : goal.returns-in-None
returns-in-None g c =
    let gone : held_for c.args.cut c.args.self.now.held.entries ≡ None = sym c.in-None.ensures.value in
    sym (not_held c.args.cut c.args.self.now.held.entries gone)
