use Rattle.std.proofs.Common.{◌≡◌, take}
use Rattle.ts_model.specs.Roster.{no_relations, roster_over}
use Rattle.engine_state.proofs.image_state.roster_from_image.Given as goal

abbrev pub invariant-loop-event : goal.invariant-loop-event
invariant-loop-event l = l.made ≡ roster_over no_relations (take l.event-index l.events)
