use Rattle.std.proofs.Common.{◌≡◌, ◌∙◌, FitsSigned, Ok, ap, rules, to_z-of_z, w64}
use Rattle.std.proofs.lemmas.Result.{err_from_is_err_and}
use Rattle.stmt_reader.specs.Cursor.{ahead}
use Rattle.stmt_tokens.specs.Streams.{Stream}
use Rattle.stmt_syntax.specs.Heads.{calendar_word}
use Rattle.stmt_reader.specs.Reading.{bind, calendar_bucket, calendar_rest, fold_behind, gives, go_on}
use Rattle.stmt_reader.specs.declared.folds.CalendarHead.{CalendarHead}
use Rattle.stmt_syntax.specs.declared.statements.Stmt.TheVariants as stmt
use Rattle.stmt_reader.proofs.Loops.{go_on_fails}
use Rattle.stmt_reader.proofs.reader.Reader.calendar.Goals as goal

-- after its head it continues with the rest of a fold
goes_on : (h : CalendarHead) (s t : Stream) → calendar_bucket s ≡ Ok (h, t) → calendar_rest s ≡ go_on (fold_behind calendar_word h.head t) (λ f. gives (stmt.Calendar h.number h.unit f))
unfolding calendar_rest bind
goes_on h s t e = ap (λ r. go_on r (λ b u. go_on (fold_behind calendar_word b.head u) (λ f. gives (stmt.Calendar b.number b.unit f)))) e

pub returns-in_err-fold : goal.returns-in_err-fold
returns-in_err-fold c =
    let head = c.in_ok-calendar.calendar in
    let p = err_from_is_err_and c.from_residual-in_err-fold.result c.from_residual-in_err-fold.ensures.1 in
    rw (p.1, p.2)
    (rw (goes_on head (ahead c.args.self.now) (ahead c.calendar_bucket.new.self) c.in_ok-calendar.ensures)
    (go_on_fails c.in_err-fold.field-0.0 (fold_behind calendar_word head.head (ahead c.calendar_bucket.new.self)) (λ f. gives (stmt.Calendar head.number head.unit f)) c.in_err-fold.ensures))

pub returns : goal.returns
returns c =
    let head = c.in_ok-calendar.calendar in
    let fits : FitsSigned w64 head.number = search rules in
    rw (to_z-of_z fits)
    (goes_on head (ahead c.args.self.now) (ahead c.calendar_bucket.new.self) c.in_ok-calendar.ensures
    ∙ ap (λ r. go_on r (λ f. gives (stmt.Calendar head.number head.unit f))) c.in_ok-fold.ensures)
