use Rattle.std.proofs.Common.{sym, ap, ◌∙◌}
use Rattle.stmt_reader.specs.Reading.{row}
use Rattle.stmt_tokens.specs.Streams.{stream}
use Rattle.stmt_tokens.specs.Words.{is_mark}
use Rattle.stmt_tokens.specs.declared.tokens.Mark.TheVariants as marks
use Rattle.stmt_reader.proofs.RowBytes.{from_value, row_opens, row_goes_on, row_may_close, value_shrinks}
use Rattle.stmt_reader.proofs.rows.row_behind.Goals as goal

pub loop-value-init : goal.loop-value-init
loop-value-init c =
    let text = c.args.text.now in
    record {
      within = c.in-Some.ensures.within;
      read =
          row_opens (stream text c.args.skip) (stream text c.in-Some.begin) c.in-Some.ensures.here c.in-Some.ensures.behind
          ∙ ap (λ vs. from_value vs (stream text c.in-Some.begin)) (sym c.clear.ensures.items);
    }

pub loop-value-smaller : goal.loop-value-smaller
loop-value-smaller c =
    let text = c.args.text.now in
    let v = c.in-Some-value_behind.field-0.value in
    let end = c.in-Some-value_behind.field-0.end in
    value_shrinks (is_mark marks.Comma) v (stream text c.loop-value.at) (stream text end) (stream text c.in-Some-mark_behind.next) c.in-Some-value_behind.ensures.read c.in-Some-mark_behind.ensures.here c.in-Some-mark_behind.ensures.behind

pub loop-value-preserved : goal.loop-value-preserved
loop-value-preserved c =
    let text = c.args.text.now in
    let v = c.in-Some-value_behind.field-0.value in
    let end = c.in-Some-value_behind.field-0.end in
    record {
      within = c.in-Some-mark_behind.ensures.within;
      read =
          c.loop-value.invariant.read
          ∙ row_goes_on c.loop-value.values.items c.push.new.self.items v (stream text c.loop-value.at) (stream text end) (stream text c.in-Some-mark_behind.next) c.in_ok-push.ensures.items c.in-Some-value_behind.ensures.read
          c.in-Some-mark_behind.ensures.here c.in-Some-mark_behind.ensures.behind;
    }

pub returns-in-None-clause-read : goal.returns-in-None-clause-read
returns-in-None-clause-read c =
    let text = c.args.text.now in
    let v = c.in-Some-value_behind.field-0.value in
    let end = c.in-Some-value_behind.field-0.end in
    row_may_close text c.mark_behind-in-None.result c.loop-value.values.items c.push.new.self.items v (stream text c.loop-value.at) (stream text end) (row (stream text c.args.skip)) c.in_ok-push.ensures.items c.in-Some-value_behind.ensures.read
    c.mark_behind-in-None.ensures.here c.mark_behind-in-None.ensures.behind c.loop-value.invariant.read
