-- What is read follows what was held, so the text to come stays.
use Rattle.std.proofs.Common.{[], sym, ◌∙◌}
use Rattle.std.proofs.lemmas.Bool.{ne_eqb}
use Rattle.ts_io.proofs.Following.{gone_same, same_filled}
use Rattle.ts_io.proofs.line_reader.Lines.read_line.Goals as goal

pub returns-in-Some-clause-line : goal.returns-in-Some-clause-line
returns-in-Some-clause-line g c =
    let filled = c.in-Bytes.ensures.filled in
    let same = same_filled (g.S.Source.left c.loop-self.source) (g.S.Source.left c.ask.new.source) c.loop-self.self.held c.ask.new.self.held filled.0 filled.1 in
    let allowed = c.ask.ensures.allowed ∙ c.loop-self.invariant.allowed in
    rw (sym allowed) (c.give.ensures.line _ _ (gone_same _ _ _ [] c.loop-self.invariant.same same))

pub loop-self-preserved : goal.loop-self-preserved
loop-self-preserved g c =
    let filled = c.in-Bytes.ensures.filled in
    let same = same_filled (g.S.Source.left c.loop-self.source) (g.S.Source.left c.ask.new.source) c.loop-self.self.held c.ask.new.self.held filled.0 filled.1 in
    record {
      same = gone_same _ _ _ [] c.loop-self.invariant.same same;
      none = c.in-None.ensures.end;
      allowed = c.ask.ensures.allowed ∙ c.loop-self.invariant.allowed;
      is_open = c.ask.ensures.is_open ∙ c.loop-self.invariant.is_open;
      untold = c.in-Bytes.ensures.ended ∙ ne_eqb c.in-Bytes.field-0 0 c.in-Bytes.field-0-test.1;
      more = c.ask.ensures.at_end;
      counted = c.in-Bytes.ensures.counted ∙ c.loop-self.invariant.counted;
    }
