use Rattle.std.proofs.Common.{◌≡◌}
use Rattle.std.specs.Vec.Iter.{into_iter_items}
use Rattle.serde_json.specs.View.{items_view}
use Rattle.transcript.specs.Reading.{talks_in}
use Rattle.transcript.proofs.Values.{before}
use Rattle.transcript.proofs.reading.sessions_in.Given as goal

abbrev pub invariant-loop-item : goal.invariant-loop-item
invariant-loop-item l =
    (goal.iterator-loop-item).can_next l.item-iterator ×
    (goal.iterator-loop-item).is_finite l.item-iterator ×
    (talks_in (items_view (into_iter_items l.initial.item-iterator)) ≡ before l.talks (talks_in (items_view (into_iter_items l.item-iterator))))
