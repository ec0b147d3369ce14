use Rattle.std.proofs.Common.{◌≤◌, arith, sym, ap, ◌∙◌}
use Rattle.ts_model.specs.History.{base_position, prefix}
use Rattle.ts_model.proofs.HistoryLaws.{base_prefix}
use Rattle.ts_sessions.proofs.StopLaws.{position_at}
use Rattle.engine_core.specs.Histories.{history_of}
use Rattle.audit.specs.Calls.{numbered_only}
use Rattle.audit.proofs.CallLaws.{only_calls}
use Rattle.audit.proofs.calls.refusal_at.Goals as goal

pub returns : goal.returns
returns c =
    let all = history_of c.args.timeline.now.past in
    let base = c.base.ensures.base in
    let start = c.base.ensures.low in
    let known = c.requires.known in
    let low : base_position (history_of c.args.timeline.now.past) ≤ c.args.at = omega (arith, base, start, known) in
    record {
      refusal =
          c.numbered_only.ensures
          ∙ ap numbered_only (c.refusal_of.ensures.refused (prefix all c.args.at) (record {
            roster_is = c.roster-roster.ensures.roster;
            pending_is = c.pending_of-pending.ensures.pending;
            position_is = sym (position_at all c.args.at low c.requires.within);
            base_is = c.base.ensures.base ∙ sym (base_prefix all c.args.at);
          }))
          ∙ only_calls (prefix all c.args.at) c.args.event.now;
    }
