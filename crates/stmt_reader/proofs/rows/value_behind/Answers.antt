use Rattle.std.proofs.Common.{Some, Ok, refl, sym, ap, ◌∙◌, rules}
use Rattle.stmt_tokens.specs.Scan as scan
use Rattle.stmt_tokens.specs.Scan.{view}
use Rattle.stmt_tokens.specs.Streams.{stream}
use Rattle.stmt_reader.proofs.RowBytes.{comes, value_by}
use Rattle.stmt_reader.proofs.rows.value_behind.Goals as goal

pub returns-clause-read : goal.returns-clause-read
returns-clause-read c =
    let text = c.args.text.now in
    let h = comes text c.args.skip (scan.token (view c.in-Token.token) c.in-Token.begin c.in-Token.end) c.requires.within c.in-Token.ensures.next in
    value_by (stream text c.args.skip) (stream text c.in-Token.end) (view c.in-Token.token) c.in_ok-value.value h.seen h.tail (sym c.in_ok-value.ensures)

pub returns-in-Some-clause-read : goal.returns-in-Some-clause-read
returns-in-Some-clause-read c =
    let text = c.args.text.now in
    let number = c.in-Some.number in
    let h = comes text c.args.skip (scan.token (scan.number (Some number.value)) number.begin number.end) c.requires.within c.in-Some.ensures.next in
    value_by (stream text c.args.skip) (stream text number.end) (scan.number (Some number.value)) (Some number.value) h.seen h.tail refl
    ∙ ap (λ z. Ok (Some z, stream text number.end)) (search rules)
