use Rattle.std.proofs.Common.{◌≡◌, length}
use Rattle.json.specs.Print.{escape}
use Rattle.transcript.proofs.Sequel.{SentSome}
use Rattle.transcript.proofs.escapes.send_escaped.Given as goal

abbrev pub invariant-loop-left : goal.invariant-loop-left
invariant-loop-left g l = record {
  some : SentSome (g.K.Sink.written l.initial.sink) (g.K.Sink.written l.sink) l.initial.page.items l.page.items (escape l.fn.text) (escape l.left);
  counted : g.K.Sink.faults l.sink ≡ g.K.Sink.faults l.initial.sink;
}

abbrev pub decreases-loop-left : goal.decreases-loop-left
decreases-loop-left g l = length l.left
