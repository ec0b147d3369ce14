-- The first row has no comma before it, and each further one follows a comma and a space.
use Rattle.std.proofs.Common.{◌≡◌, ◌∙◌, sym, ap, ◌+◌, ◌-◌, ◌++◌, codes, arith}
use Rattle.std.proofs.lemmas.List.{append_assoc}
use Rattle.std.specs.String.{string_bytes}
use Rattle.demo_script.specs.Demo.{row_text, rows_text}
use Rattle.demo_script.proofs.RowLaws.{first_row, next_row}
use Rattle.demo_script.proofs.rows.put_rows.Goals as goal

pub loop-place-init : goal.loop-place-init
loop-place-init c =
    let a = c.args in
    let one : a.first + 1 - a.first ≡ 1 = omega arith in
    let text = ap (λ k. rows_text a.demo a.round a.first k) one ∙ first_row a.demo a.round a.first in
    record { after = omega arith; written = c.in_ok-put_row.ensures ∙ ap (λ t. string_bytes a.out.now ++ t) (sym text) }

pub loop-place-preserved : goal.loop-place-preserved
loop-place-preserved c =
    let a = c.args in
    let before = string_bytes a.out.now in
    let place = c.loop-place.place in
    let rows = rows_text a.demo a.round a.first (place - a.first) in
    let row = row_text a.demo a.round place in
    record {
      after = omega arith;
      written =
          c.in_ok-put_row-2.ensures
          ∙ ap (λ t. t ++ row) (c.in_ok-push_str.ensures.bytes ∙ ap (λ t. t ++ codes ", ") c.loop-place.invariant.written)
          ∙ append_assoc (before ++ rows) (codes ", ") row
          ∙ append_assoc before rows (codes ", " ++ row)
          ∙ ap (λ t. before ++ t) (sym (next_row a.demo a.round a.first place c.loop-place.invariant.after));
    }
