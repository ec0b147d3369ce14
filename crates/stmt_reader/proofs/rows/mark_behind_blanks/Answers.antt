use Rattle.std.proofs.Common.{sym, ◌∙◌}
use Rattle.stmt_tokens.specs.Scan as scan
use Rattle.stmt_tokens.specs.Scan.{view}
use Rattle.stmt_tokens.specs.Streams.{stream}
use Rattle.stmt_tokens.specs.Words.{is_mark}
use Rattle.stmt_reader.proofs.RowBytes.{comes, heads_by}
use Rattle.stmt_reader.proofs.rows.mark_behind_blanks.Goals as goal

pub returns-clause-here : goal.returns-clause-here
returns-clause-here c =
    let text = c.args.text.now in
    let h = comes text c.args.skip (scan.token (view c.in-Token.token) c.in-Token.begin c.in-Token.end) c.requires.within c.in-Token.ensures.next in
    heads_by (is_mark c.args.mark) (stream text c.args.skip) (view c.in-Token.token) h.seen (sym c.is_mark.ensures ∙ c.if-not-is_mark.false)

pub returns-clause-behind : goal.returns-clause-behind
returns-clause-behind c =
    let h = comes c.args.text.now c.args.skip (scan.token (view c.in-Token.token) c.in-Token.begin c.in-Token.end) c.requires.within c.in-Token.ensures.next in
    h.tail
