use Rattle.std.proofs.Common.{subst}
use Rattle.transcript.specs.Sending.{Sends}
use Rattle.transcript.proofs.EscapeLaws.{control_byte, other_byte, short_byte}
use Rattle.transcript.proofs.escapes.send_byte.Goals as goal

pub returns-then-letter-gt0-clause-sent : goal.returns-then-letter-gt0-clause-sent
returns-then-letter-gt0-clause-sent g c =
    subst (Sends c.send.result (g.K.Sink.written c.args.sink.now) (g.K.Sink.written c.send.new.sink) c.args.page.now.items c.send.new.page.items)
    (short_byte c.args.byte c.escape_letter-letter.result c.escape_letter-letter.ensures c.if-letter-gt0.true) c.send.ensures.sent

pub returns-then-byte-lt32-clause-sent : goal.returns-then-byte-lt32-clause-sent
returns-then-byte-lt32-clause-sent g c =
    subst (Sends c.send-then-byte-lt32.result (g.K.Sink.written c.args.sink.now) (g.K.Sink.written c.send-then-byte-lt32.new.sink) c.args.page.now.items c.send-then-byte-lt32.new.page.items)
    (control_byte c.args.byte c.escape_letter-letter.result c.hex_digit.result c.hex_digit-then-byte-lt32.result c.escape_letter-letter.ensures c.if-letter-gt0.false c.if-byte-lt32.true c.hex_digit.ensures c.hex_digit-then-byte-lt32.ensures)
    c.send-then-byte-lt32.ensures.sent

pub returns-else-byte-lt32-clause-sent : goal.returns-else-byte-lt32-clause-sent
returns-else-byte-lt32-clause-sent g c =
    subst (Sends c.send-else-byte-lt32.result (g.K.Sink.written c.args.sink.now) (g.K.Sink.written c.send-else-byte-lt32.new.sink) c.args.page.now.items c.send-else-byte-lt32.new.page.items)
    (other_byte c.args.byte c.escape_letter-letter.result c.escape_letter-letter.ensures c.if-letter-gt0.false c.if-byte-lt32.false) c.send-else-byte-lt32.ensures.sent
