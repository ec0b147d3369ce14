-- Each piece is searched and dropped until the line ends.
use Rattle.std.proofs.Common.{◌≡◌, ◌≤◌, [], length, ap, ◌∙◌, arith, rules}
use Rattle.std.proofs.lemmas.List.{nil_from_length, drop_all}
use Rattle.std.proofs.lemmas.Bool.{ne_eqb}
use Rattle.ts_io.proofs.LineEnds.{IsFirstEnd-front}
use Rattle.ts_io.proofs.Skipping.{Skips-step, Skips-ends, Skips-last, Skips-over}
use Rattle.ts_io.proofs.line_reader.Lines.skip_line.Goals as goal

pub returns-in-Bytes-eq0-clause-line : goal.returns-in-Bytes-eq0-clause-line
returns-in-Bytes-eq0-clause-line g c =
    let was = c.loop-self.self in
    let filled = c.in-Bytes-eq0.ensures.filled in
    let size : length c.buffered-skipped.result.now ≡ length was.held = ap length c.buffered-skipped.ensures in
    let within : length was.held ≤ was.allowed = search rules in
    let step =
    Skips-step _ (g.S.Source.left c.loop-self.source) (g.S.Source.left c.ask.new.source) was.held c.advance.new.self.held c.ask.new.self.held _ was.allowed c.ask.new.self.allowed
    (length c.buffered-skipped.result.now) 0 c.loop-self.invariant.skips c.loop-self.invariant.none within size c.advance.ensures.held (c.ask.ensures.allowed ∙ c.advance.ensures.allowed)
    filled.0 filled.1 in
    let dropped : length c.advance.new.self.held ≡ 0 = ap length (c.advance.ensures.held ∙ drop_all _ was.held (omega arith)) in
    let empty : c.ask.new.self.held ≡ [] = nil_from_length c.ask.new.self.held (omega (arith, filled.2)) in
    rw c.note_end.ensures.noted
    (Skips-last _ (g.S.Source.left c.ask.new.source) c.ask.new.self.held _ _ c.ask.new.self.allowed step empty (filled.3 c.in-Bytes-eq0.field-0-test))

pub note_end-requires : goal.note_end-requires
note_end-requires g c =
    let was = c.loop-self.self in
    let filled = c.in-Bytes-eq0.ensures.filled in
    let size : length c.buffered-skipped.result.now ≡ length was.held = ap length c.buffered-skipped.ensures in
    let dropped : length c.advance.new.self.held ≡ 0 = ap length (c.advance.ensures.held ∙ drop_all _ was.held (omega arith)) in
    omega (arith, filled.2)

pub returns-in-Some-clause-line : goal.returns-in-Some-clause-line
returns-in-Some-clause-line g c =
    let was = c.loop-self.self in
    let filled = c.in-Bytes.ensures.filled in
    let size : length c.buffered-skipped.result.now ≡ length was.held = ap length c.buffered-skipped.ensures in
    let within : length was.held ≤ was.allowed = search rules in
    let step =
    Skips-step _ (g.S.Source.left c.loop-self.source) (g.S.Source.left c.ask.new.source) was.held c.advance.new.self.held c.ask.new.self.held _ was.allowed c.ask.new.self.allowed
    (length c.buffered-skipped.result.now) 0 c.loop-self.invariant.skips c.loop-self.invariant.none within size c.advance.ensures.held (c.ask.ensures.allowed ∙ c.advance.ensures.allowed)
    filled.0 filled.1 in
    let (below, found) = IsFirstEnd-front c.ask.new.self.held c.ask.new.self.allowed c.in-Some.n c.in-Some.ensures.end in
    rw (c.advance-in-Some.ensures.held, c.advance-in-Some.ensures.allowed)
    (Skips-ends _ (g.S.Source.left c.ask.new.source) c.ask.new.self.held _ _ c.ask.new.self.allowed c.in-Some.n step found below)

pub loop-self-preserved : goal.loop-self-preserved
loop-self-preserved g c =
    let was = c.loop-self.self in
    let filled = c.in-Bytes.ensures.filled in
    let size : length c.buffered-skipped.result.now ≡ length was.held = ap length c.buffered-skipped.ensures in
    let within : length was.held ≤ was.allowed = search rules in
    record {
      skips = Skips-step _ (g.S.Source.left c.loop-self.source) (g.S.Source.left c.ask.new.source) was.held c.advance.new.self.held c.ask.new.self.held _ was.allowed
          c.ask.new.self.allowed (length c.buffered-skipped.result.now) (length c.ask.new.self.held) c.loop-self.invariant.skips c.loop-self.invariant.none within size
          c.advance.ensures.held (c.ask.ensures.allowed ∙ c.advance.ensures.allowed) filled.0 filled.1;
      none = c.in-None.ensures.end;
      some = omega (arith, filled.2);
      is_open = c.ask.ensures.is_open ∙ c.advance.ensures.is_open ∙ c.loop-self.invariant.is_open;
      untold = c.in-Bytes.ensures.ended ∙ ne_eqb c.in-Bytes.field-0 0 c.in-Bytes.field-0-test.1;
      more = c.ask.ensures.at_end;
      counted = c.in-Bytes.ensures.counted ∙ c.loop-self.invariant.counted;
    }

pub returns-clause-line : goal.returns-clause-line
returns-clause-line g c =
    let held = c.loop-self.self.held in
    rw (c.stop-2.ensures.end, c.stop-2.ensures.closed)
    (Skips-over _ (g.S.Source.left c.loop-self.source) held _ _ c.loop-self.self.allowed _ c.loop-self.invariant.skips c.loop-self.invariant.none (search rules))
