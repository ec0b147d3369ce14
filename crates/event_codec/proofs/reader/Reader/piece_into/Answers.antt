use Rattle.std.proofs.Common.{◌≡◌, ◌-◌, ◌+◌, ◌∷◌, [], ◌++◌, List, drop, length, sym, ap, ◌∙◌, subst, rules}
use Rattle.std.specs.Prelude.{FitsSigned}
use Rattle.std.specs.Int.{w64}
use Rattle.std.proofs.lemmas.Int.{to_z-of_z}
use Rattle.std.proofs.lemmas.Result.{err_from_is_err_and}
use Rattle.ts_schema.specs.declared.rows.Row.{Row}
use Rattle.cell_rows.specs.Parts.{parts}
use Rattle.event_codec.specs.Blocks.{timed_rows}
use Rattle.event_codec.specs.Reading.{go_on, items, row_at}
use Rattle.event_codec.proofs.BlockLaws.{mapped_fails, row_put}
use Rattle.event_codec.proofs.Formats.{done}
use Rattle.event_codec.proofs.Loops.{with_front, goes_on, ends, is_done}
use Rattle.event_codec.proofs.reader.Reader.piece_into.Goals as goal

pub returns-in_err-at : goal.returns-in_err-at
returns-in_err-at c =
    let p = err_from_is_err_and c.from_residual-in_err-at.result c.from_residual-in_err-at.ensures.1 in
    rw (p.1, p.2) (mapped_fails c.in_err-at.field-0.0 (λ (rows : List Row). c.args.into.now.items ++ rows) (items c.args.count row_at c.args.self.now) c.row_into.new.self
    (ends row_at c.in_err-at.field-0.0 (timed_rows c.loop.times.items (parts 0 c.loop.ends.items c.loop.values)) c.args.count c.loop.counter c.loop.self c.row_into.new.self (items c.args.count row_at c.args.self.now) c.loop-test.true c.in_err-at.ensures.read c.loop.invariant.2))

pub loop-preserved : goal.loop-preserved
loop-preserved c =
    let fits : FitsSigned w64 c.in_ok-at.at = search rules in
    let time : c.push_row.new.times.items ≡ c.loop.times.items ++ c.in_ok-at.at ∷ [] = simp to_z-of_z at c.in_ok-push_row.ensures.time in
    let vals = drop (length c.loop.values) c.row_into.new.into in
    let put = row_put c.loop.times.items c.push_row.new.times.items c.loop.ends.items c.push_row.new.ends.items c.loop.values c.row_into.new.into vals c.in_ok-at.at c.len.result
    c.loop.invariant.0 c.loop.invariant.1 time c.in_ok-at.ensures.behind c.len.ensures.len c.in_ok-push_row.ensures.end in (
      put.0,
      put.1,
      subst (λ (front : List Row). with_front row_at front (items (c.args.count - (c.loop.counter + 1)) row_at c.row_into.new.self) ≡ items c.args.count row_at c.args.self.now) (sym put.2)
          (goes_on row_at (timed_rows c.loop.times.items (parts 0 c.loop.ends.items c.loop.values)) c.args.count c.loop.counter c.loop.self c.row_into.new.self (record { at = c.in_ok-at.at; vals = vals }) (items c.args.count row_at c.args.self.now) c.loop-test.true c.in_ok-at.ensures.read c.loop.invariant.2),
    )

pub returns : goal.returns
returns c =
    let into : List Row = c.args.into.now.items in
    let times : c.as_slice.result.now ≡ c.loop.times.items = c.as_slice.ensures.value in
    let ends_are : c.as_slice-2.result.now ≡ c.loop.ends.items = c.as_slice-2.ensures.value in
    let all : items c.args.count row_at c.args.self.now ≡ done (timed_rows c.loop.times.items (parts 0 c.loop.ends.items c.loop.values)) c.loop.self =
    is_done row_at (timed_rows c.loop.times.items (parts 0 c.loop.ends.items c.loop.values)) c.args.count c.loop.counter c.loop.self (items c.args.count row_at c.args.self.now) c.loop-test.false c.loop.invariant.2 in
    let pushed : c.push_rows.new.into.items ≡ into ++ timed_rows c.loop.times.items (parts 0 c.loop.ends.items c.loop.values) =
    c.in_ok-push_rows.ensures ∙ (λ k. into ++ timed_rows (times k) (parts 0 (ends_are k) c.loop.values)) in
    ap (λ r. go_on r (λ rows left. done (into ++ rows) left)) all ∙ ap (λ (rows : List Row). done rows c.loop.self) (sym pushed)
