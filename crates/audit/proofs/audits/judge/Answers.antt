use Rattle.std.proofs.Common.{◌≡◌, ◌∙◌, ◌<◌, ◌≤◌, ap, sym, arith}
use Rattle.ts_model.specs.History.{base_position, position}
use Rattle.engine_core.specs.Histories.{history_of}
use Rattle.engine_core.specs.Values.{Past}
use Rattle.engine_core.proofs.EventLaws.{base_of}
use Rattle.audit.specs.Lines.{first_policy}
use Rattle.audit.proofs.audits.judge.Goals.{then-transcript-begun_at-via-then-transcript-begun_at, then-transcript-begun_at-via-else-transcript-begun_at+then-transcript-end}
use Rattle.audit.proofs.audits.judge.Goals as goal

pub returns-then-transcript-begun_at : goal.returns-then-transcript-begun_at
returns-then-transcript-begun_at g c =
    let past : Past = record { base = c.args.base.now; events = c.args.events.now } in
    let begun : c.begun_at.result ≡ base_position (history_of past) = c.begun_at.ensures ∙ base_of past in
    let end : c.end_of-end.result ≡ position (history_of past) = c.end_of-end.ensures.end in
    record {
      judged = (
        λ within.
            elim c.then-transcript-begun_at.branch [
              | then-transcript-begun_at-via-then-transcript-begun_at w ↦
                  let less : c.args.transcript.now.start < c.begun_at.result = w.if-transcript-begun_at.true in
                  let low = within.0 in
                  absurd (omega (arith, begun, less, low))
              | then-transcript-begun_at-via-else-transcript-begun_at+then-transcript-end w ↦
                  let more : c.end_of-end.result < c.args.transcript.now.start = w.if-transcript-end.true in
                  let high = within.1 in
                  absurd (omega (arith, end, more, high))
            ],
        end,
      );
    }

pub judge_replies-requires-clause-within : goal.judge_replies-requires-clause-within
judge_replies-requires-clause-within g c κs within =
    let past : Past = record { base = c.args.base.now; events = c.args.events.now } in
    let begun : c.begun_at.result ≡ base_position (history_of past) = c.begun_at.ensures ∙ base_of past in
    let end : c.end_of-end.result ≡ position (history_of past) = c.end_of-end.ensures.end in
    let low : c.begun_at.result ≤ c.args.transcript.now.start = c.if-transcript-begun_at.false in
    let high : c.args.transcript.now.start ≤ c.end_of-end.result = c.if-transcript-end.false in
    (omega (arith, begun, low), omega (arith, end, high))

pub returns-in-Some : goal.returns-in-Some
returns-in-Some g c =
    let past : Past = record { base = c.args.base.now; events = c.args.events.now } in
    let begun : c.begun_at.result ≡ base_position (history_of past) = c.begun_at.ensures ∙ base_of past in
    let end : c.end_of-end.result ≡ position (history_of past) = c.end_of-end.ensures.end in
    let low : c.begun_at.result ≤ c.args.transcript.now.start = c.if-transcript-begun_at.false in
    let high : c.args.transcript.now.start ≤ c.end_of-end.result = c.if-transcript-end.false in
    record { judged = ((omega (arith, begun, low), omega (arith, end, high)), ap first_policy (sym c.items.ensures.items) ∙ sym c.in_ok-place.ensures.first ∙ c.in-Some.is) }
