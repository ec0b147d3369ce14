use Rattle.std.proofs.Common.{◌≡◌, Some, sym, ◌∙◌}
use Rattle.ts_model.specs.History.{History}
use Rattle.event_check.specs.Checks.{IsAt, event_refusal}
use Rattle.event_check.proofs.CheckLaws.{refused_late, refused_else, none_where_allowed}
use Rattle.event_check.proofs.events.refusal_of.Goals as goal

pub returns-in-Some : goal.returns-in-Some
returns-in-Some c =
    let refused : (h : History) → IsAt h c.args.event.now c.args.roster.now c.args.pending c.args.position c.args.base → Some c.in-Some.refusal ≡ event_refusal h c.args.event.now =
    λ h is. refused_late h c.args.event.now c.args.roster.now c.args.pending c.args.position c.args.base c.in-Some.refusal is (sym c.in-Some.is ∙ c.call_refusal.ensures) in
    record { allowed = λ h is. none_where_allowed h c.args.event.now _ (refused h is); refused = refused }

pub returns-in-None : goal.returns-in-None
returns-in-None c =
    let refused : (h : History) → IsAt h c.args.event.now c.args.roster.now c.args.pending c.args.position c.args.base → c.unsound_refusal.result ≡ event_refusal h c.args.event.now =
    λ h is. c.unsound_refusal.ensures ∙ refused_else h c.args.event.now c.args.roster.now c.args.pending c.args.position c.args.base c.is_sound.result is (sym c.in-None.is ∙ c.call_refusal.ensures) c.is_sound.ensures in
    record { allowed = λ h is. none_where_allowed h c.args.event.now _ (refused h is); refused = refused }
