use Rattle.std.proofs.Common.{sym, subst}
use Rattle.ts_model.specs.declared.events.Event.TheVariants.{View}
use Rattle.ts_model.specs.Calls.{making_view}
use Rattle.engine_core.specs.Acts.{making_event}
use Rattle.engine_core.specs.Histories.{history_of}
use Rattle.engine_core.specs.Stores.{EngineDoes}
use Rattle.engine_core.proofs.ActLaws.{answered_view}
use Rattle.engine_core.proofs.StoreLaws.{does_as}
use Rattle.engine_core.proofs.event_calls.make_view.Goals as goal

pub returns : goal.returns
returns c =
    let old = c.args.engine.now.past in
    subst (λ o. EngineDoes (making_view c.args.def) c.args.engine.now.past o c.make.new.engine.past) (sym c.number_only.ensures)
    (does_as (λ r. r.pos) (making_event (View c.args.def)) (making_view c.args.def) old c.make.result c.make.new.engine.past (answered_view c.args.def (history_of old)) c.make.ensures)
