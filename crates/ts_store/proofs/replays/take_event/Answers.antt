use Rattle.std.proofs.Common.{Some, refl, sym, ◌∙◌}
use Rattle.std.proofs.lemmas.Bool.{true≢false}
use Rattle.event_check.proofs.CheckLaws.{none_where_allowed}
use Rattle.engine_core.specs.Histories.{history_of}
use Rattle.ts_store.proofs.HistoryLaws.{no_other}
use Rattle.ts_store.proofs.replays.take_event.Goals as goal

pub returns-in-Ok-follow-clause-taken : goal.returns-in-Ok-follow-clause-taken
returns-in-Ok-follow-clause-taken g c = record { event = c.args.event; next = record { spelled = refl; formed = c.requires.formed; fits = c.in-Ok.ensures.allowed }; past = c.in-Ok-follow.ensures.past }

pub returns-in-Err-clause-taken : goal.returns-in-Err-clause-taken
returns-in-Err-clause-taken g c =
    let h = history_of (g.T.Follower.past c.args.follower.now) in
    no_other h c.args.event c.requires.formed
    (λ fits. absurd (true≢false (sym fits ∙ sym (none_where_allowed h c.args.event (Some c.in-Err.field-0) (sym c.in-Err.ensures.refused)))))
