use Rattle.std.proofs.Common.{◌≡◌, false, length}
use Rattle.serde_json.specs.Written.{items_text}
use Rattle.transcript.specs.Text.{exchanges_data}
use Rattle.transcript.proofs.Sequel.{SentSome}
use Rattle.transcript.proofs.sending.send_exchanges.Given as goal

abbrev pub invariant-loop-exchange : goal.invariant-loop-exchange
invariant-loop-exchange g l = record {
  some : SentSome (g.K.Sink.written l.initial.sink) (g.K.Sink.written l.sink) l.initial.page.items l.page.items (items_text false (exchanges_data l.fn.exchanges)) (items_text l.later (exchanges_data l.left));
  counted : g.K.Sink.faults l.sink ≡ g.K.Sink.faults l.initial.sink;
}

abbrev pub decreases-loop-exchange : goal.decreases-loop-exchange
decreases-loop-exchange g l = length l.left
