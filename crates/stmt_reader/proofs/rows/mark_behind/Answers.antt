use Rattle.std.proofs.Common.{sym, ◌∙◌}
use Rattle.stmt_tokens.specs.Scan as scan
use Rattle.stmt_tokens.specs.Streams.{stream}
use Rattle.stmt_tokens.specs.Words.{is_mark}
use Rattle.stmt_reader.proofs.RowBytes.{comes, heads_by}
use Rattle.stmt_reader.proofs.rows.mark_behind.Goals as goal

pub returns-clause-here : goal.returns-clause-here
returns-clause-here c =
    let text = c.args.text.now in
    let found = c.in-Some.found in
    let h = comes text c.args.skip (scan.token (scan.mark found.mark) found.begin found.end) c.requires.within c.in-Some.ensures.next in
    heads_by (is_mark c.args.mark) (stream text c.args.skip) (scan.mark found.mark) h.seen (sym c.is.ensures ∙ c.if-not-is.false)

pub returns-clause-behind : goal.returns-clause-behind
returns-clause-behind c =
    let found = c.in-Some.found in
    let h = comes c.args.text.now c.args.skip (scan.token (scan.mark found.mark) found.begin found.end) c.requires.within c.in-Some.ensures.next in
    h.tail
