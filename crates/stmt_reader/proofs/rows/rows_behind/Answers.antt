use Rattle.std.proofs.Common.{◌≡◌, ℕ, ◌≤◌, Option, length, subst, arith}
use Rattle.std.specs.Prelude.{Ok, IfSome}
use Rattle.stmt_reader.specs.Reading.{more, parts, row}
use Rattle.stmt_tokens.specs.Streams.{stream}
use Rattle.stmt_reader.specs.declared.phrases.Separator.TheVariants.{Comma}
use Rattle.stmt_reader.proofs.RowBytes.{row_shrinks, rows_go_on}
use Rattle.stmt_reader.proofs.rows.rows_behind.Goals as goal

pub loop-begin-smaller : goal.loop-begin-smaller
loop-begin-smaller c =
    let text = c.args.text.now in
    let vs = c.row_behind.new.values.items in
    let read = subst (λ (found : Option ℕ). IfSome found (λ end. row (stream text c.in-Some.begin) ≡ Ok (vs, stream text end))) c.in-Some-2.is c.in_ok-end.ensures.read in
    row_shrinks (parts Comma) vs (stream text c.loop-begin.at) (stream text c.in-Some.begin) (stream text c.in-Some-2.end) c.in-Some.ensures.here c.in-Some.ensures.behind read

pub loop-begin-preserved : goal.loop-begin-preserved
loop-begin-preserved c =
    let text = c.args.text.now in
    let vs = c.row_behind.new.values.items in
    let read = subst (λ (found : Option ℕ). IfSome found (λ end. row (stream text c.in-Some.begin) ≡ Ok (vs, stream text end))) c.in-Some-2.is c.in_ok-end.ensures.read in
    let less = row_shrinks (parts Comma) vs (stream text c.loop-begin.at) (stream text c.in-Some.begin) (stream text c.in-Some-2.end) c.in-Some.ensures.here c.in-Some.ensures.behind read in
    record {
      within = subst (λ (found : Option ℕ). IfSome found (λ end. end ≤ length text)) c.in-Some-2.is c.in_ok-end.ensures.within;
      forward = omega (arith, less, c.loop-begin.invariant.forward);
      read =
          rows_go_on c.loop-begin.rows c.push.new.self vs c.as_slice.result.now (stream text c.loop-begin.at) (stream text c.in-Some.begin) (stream text c.in-Some-2.end) (more (parts Comma) row c.args.rows.now (stream text c.args.skip))
          c.in_ok-push.ensures.pushed c.as_slice.ensures.value c.in-Some.ensures.here c.in-Some.ensures.behind read c.loop-begin.invariant.read;
    }
