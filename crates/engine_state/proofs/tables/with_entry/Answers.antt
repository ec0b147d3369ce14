use Rattle.std.proofs.Common.{◌≡◌, Some, ap, ◌∙◌, rules}
use Rattle.std.specs.Prelude.{Ok, Err, IfOk}
use Rattle.coverage.specs.Notes.{log_after}
use Rattle.engine_state.specs.Notes.{noted_in}
use Rattle.engine_state.proofs.NoteLaws.{noted_entries}
use Rattle.engine_state.proofs.tables.with_entry.Goals as goal

pub returns-clause-entries : goal.returns-clause-entries
returns-clause-entries c =
    let threshold : c.reserve.new.self.threshold ≡ c.args.log.now.threshold = search rules in
    let entries : c.reserve.new.self.entries ≡ c.args.log.now.entries = search rules in
    let noted : noted_in c.note.new.self.entries ≡ log_after (Some c.args.hull) c.args.pos c.args.log.now.threshold (noted_in c.args.log.now.entries) =
    ap noted_in c.note.ensures.entries ∙ noted_entries c.reserve.new.self c.args.hull c.args.pos ∙ (λ i. log_after (Some c.args.hull) c.args.pos (threshold i) (noted_in (entries i))) in
    elim c.share.result as (λ r. IfOk r (λ shared. shared.entries ≡ c.note.new.self.entries) → IfOk r (λ new. noted_in new.entries ≡ log_after (Some c.args.hull) c.args.pos c.args.log.now.threshold (noted_in c.args.log.now.entries))) [ Ok new ↦ λ e. ap noted_in e ∙ noted | Err e ↦ λ t. t ] c.share.ensures.entries
