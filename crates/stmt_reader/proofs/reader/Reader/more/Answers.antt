use Rattle.std.proofs.Common.{sym, ◌∙◌}
use Rattle.std.proofs.lemmas.Result.{err_from_is_err_and}
use Rattle.stmt_reader.specs.Cursor.{ahead}
use Rattle.stmt_reader.specs.Reading.{more, parts}
use Rattle.stmt_reader.proofs.Loops.{more_turn, more_fails, more_done}
use Rattle.stmt_reader.proofs.reader.Reader.more.Goals as goal

pub returns-in_err-read : goal.returns-in_err-read
returns-in_err-read g c =
    let p = err_from_is_err_and c.from_residual.result c.from_residual.ensures.1 in
    let total = more (parts c.args.separator) g.T.Phrase.phrase c.args.front (ahead c.args.self.now) in
    rw (p.1, p.2) (more_fails c.in_err-read.field-0.0 (parts c.args.separator) g.T.Phrase.phrase c.loop-separator.items (ahead c.loop-separator.self) (ahead c.takes_separator.new.self) total
    (record { goes = g.met.T.Phrase.forward }) (sym c.takes_separator.ensures.taken ∙ c.loop-separator-test.true) c.loop-separator-test.ensures.left c.in_err-read.ensures c.loop-separator.invariant)

pub loop-separator-preserved : goal.loop-separator-preserved
loop-separator-preserved g c =
    let total = more (parts c.args.separator) g.T.Phrase.phrase c.args.front (ahead c.args.self.now) in
    rw c.in_ok-push.ensures.pushed (more_turn (parts c.args.separator) g.T.Phrase.phrase c.loop-separator.items (ahead c.loop-separator.self) (ahead c.takes_separator.new.self) (ahead c.read.new.reader) c.in_ok-read.field-0 total
    (record { goes = g.met.T.Phrase.forward }) (sym c.takes_separator.ensures.taken ∙ c.loop-separator-test.true) c.loop-separator-test.ensures.left c.in_ok-read.ensures c.loop-separator.invariant)

pub returns : goal.returns
returns g c =
    let total = more (parts c.args.separator) g.T.Phrase.phrase c.args.front (ahead c.args.self.now) in
    more_done (parts c.args.separator) g.T.Phrase.phrase c.loop-separator.items (ahead c.loop-separator.self) (ahead c.takes_separator.new.self) total
    (sym c.takes_separator.ensures.taken ∙ c.loop-separator-test.false) c.loop-separator-test.ensures.left c.loop-separator.invariant
