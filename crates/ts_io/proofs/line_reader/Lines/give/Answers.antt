-- The line that ends among the bytes held is the first of the text to come.
use Rattle.std.proofs.Common.{[], refl, arith}
use Rattle.ts_io.proofs.Following.{line_given, long_given}
use Rattle.ts_io.proofs.LineEnds.{IsFirstEnd-front}
use Rattle.ts_io.proofs.line_reader.Lines.give.Goals as goal

pub returns-then-n-gt-LINE_LIMIT-clause-line : goal.returns-then-n-gt-LINE_LIMIT-clause-line
returns-then-n-gt-LINE_LIMIT-clause-line c start left same =
    let was = c.args.self.now in
    let (below, found) = IsFirstEnd-front was.held was.allowed c.args.n c.requires.end in
    rw (c.advance.ensures.held, c.advance.ensures.allowed)
    (long_given start left [] was.held _ was.allowed was.allowed c.args.n same refl (omega arith) found below (omega (arith, c.if-n-gt-LINE_LIMIT.true)))

pub returns-else-n-gt-LINE_LIMIT-clause-line : goal.returns-else-n-gt-LINE_LIMIT-clause-line
returns-else-n-gt-LINE_LIMIT-clause-line c start left same =
    let was = c.args.self.now in
    let (below, found) = IsFirstEnd-front was.held was.allowed c.args.n c.requires.end in
    rw (c.advance.ensures.line, c.advance.ensures.held, c.advance.ensures.allowed)
    (line_given start left was.held was.allowed c.args.n same found below (omega (arith, c.if-n-gt-LINE_LIMIT.false)))
