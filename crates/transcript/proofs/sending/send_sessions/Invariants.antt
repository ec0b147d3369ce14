use Rattle.std.proofs.Common.{◌≡◌, false, length}
use Rattle.serde_json.specs.Written.{items_text}
use Rattle.transcript.specs.Text.{talks_data}
use Rattle.transcript.proofs.Sequel.{SentSome}
use Rattle.transcript.proofs.sending.send_sessions.Given as goal

abbrev pub invariant-loop-talk : goal.invariant-loop-talk
invariant-loop-talk g l = record {
  some : SentSome (g.K.Sink.written l.initial.sink) (g.K.Sink.written l.sink) l.initial.page.items l.page.items (items_text false (talks_data l.fn.talks)) (items_text l.later (talks_data l.left));
  counted : g.K.Sink.faults l.sink ≡ g.K.Sink.faults l.initial.sink;
}

abbrev pub decreases-loop-talk : goal.decreases-loop-talk
decreases-loop-talk g l = length l.left
