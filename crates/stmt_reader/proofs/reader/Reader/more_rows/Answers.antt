use Rattle.std.proofs.Common.{sym, ◌∙◌, arith}
use Rattle.std.proofs.lemmas.Result.{err_from_is_err_and}
use Rattle.stmt_reader.specs.Cursor.{ahead}
use Rattle.stmt_reader.specs.Forward.{forward-row}
use Rattle.stmt_reader.specs.Reading.{more, parts, row}
use Rattle.stmt_reader.specs.declared.phrases.Separator.TheVariants.{Comma}
use Rattle.stmt_reader.proofs.Loops.{more_fails, more_done, past_is_less}
use Rattle.stmt_reader.proofs.RowBytes.{rows_go_on}
use Rattle.stmt_reader.proofs.reader.Reader.more_rows.Goals as goal

pub returns-in_err-values : goal.returns-in_err-values
returns-in_err-values c =
    let p = err_from_is_err_and c.from_residual-in_err-values.result c.from_residual-in_err-values.ensures.1 in
    let total = more (parts Comma) row c.args.front (ahead c.args.self.now) in
    rw (p.1, p.2) (more_fails c.in_err-values.field-0.0 (parts Comma) row c.rows_in_bytes.new.rows (ahead c.rows_in_bytes.new.self) (ahead c.takes_separator.new.self) total
    forward-row (sym c.takes_separator.ensures.taken ∙ c.if-not-takes_separator.false) c.if-not-takes_separator.ensures.left c.in_err-values.ensures (c.in_ok-room.ensures.read ∙ c.rows.invariant))

pub rows-smaller : goal.rows-smaller
rows-smaller c =
    let past = past_is_less (parts Comma) (ahead c.rows_in_bytes.new.self) (ahead c.takes_separator.new.self) (sym c.takes_separator.ensures.taken ∙ c.if-not-takes_separator.false) c.if-not-takes_separator.ensures.left in
    omega (arith, past, c.in_ok-room.ensures.forward, forward-row.goes (ahead c.takes_separator.new.self) c.in_ok-values.values (ahead c.row_of_tokens.new.self) c.in_ok-values.ensures)

pub rows-preserved : goal.rows-preserved
rows-preserved c =
    let total = more (parts Comma) row c.args.front (ahead c.args.self.now) in
    rows_go_on c.rows_in_bytes.new.rows c.push.new.self c.in_ok-values.values c.items.result.now (ahead c.rows_in_bytes.new.self) (ahead c.takes_separator.new.self) (ahead c.row_of_tokens.new.self) total
    c.in_ok-push.ensures.pushed c.items.ensures.items (sym c.takes_separator.ensures.taken ∙ c.if-not-takes_separator.false) c.if-not-takes_separator.ensures.left c.in_ok-values.ensures (c.in_ok-room.ensures.read ∙ c.rows.invariant)

pub returns-then-not-takes_separator : goal.returns-then-not-takes_separator
returns-then-not-takes_separator c =
    let total = more (parts Comma) row c.args.front (ahead c.args.self.now) in
    more_done (parts Comma) row c.rows_in_bytes.new.rows (ahead c.rows_in_bytes.new.self) (ahead c.takes_separator.new.self) total
    (sym c.takes_separator.ensures.taken ∙ c.if-not-takes_separator.true) c.if-not-takes_separator.ensures.left (c.in_ok-room.ensures.read ∙ c.rows.invariant)
