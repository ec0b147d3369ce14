-- All the bytes held are the last line.
use Rattle.std.proofs.Common.{◌≡◌, ◌<◌, [], length, ap, ◌∙◌, arith, take_all}
use Rattle.std.proofs.lemmas.List.{drop_all}
use Rattle.ts_io.proofs.Following.{last_given}
use Rattle.ts_io.proofs.line_reader.Lines.give_last.Goals as goal

pub returns-clause-line : goal.returns-clause-line
returns-clause-line c start left end same =
    let was = c.args.self.now in
    let size : length c.buffered-last.result.now ≡ length was.held = ap length c.buffered-last.ensures in
    let empty : c.advance.new.self.held ≡ [] = c.advance.ensures.held ∙ drop_all _ was.held (omega arith) in
    let whole : c.advance.new.self.line ≡ was.held = c.advance.ensures.line ∙ take_all _ was.held (omega arith) in
    let some : 0 < length was.held = omega (arith, c.if-last-eq0.false) in
    rw (c.note_end.ensures.noted, empty, whole) (last_given start left was.held was.allowed c.advance.new.self.allowed same end c.requires.none some c.requires.allowed c.requires.short)
