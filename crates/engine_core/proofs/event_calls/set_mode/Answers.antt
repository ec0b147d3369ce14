use Rattle.std.proofs.Common.{sym, subst}
use Rattle.ts_model.specs.declared.events.Event.TheVariants.{Mode}
use Rattle.ts_model.specs.Calls.{setting_mode}
use Rattle.engine_core.specs.Acts.{making_event}
use Rattle.engine_core.specs.Histories.{history_of}
use Rattle.engine_core.specs.Stores.{EngineDoes}
use Rattle.engine_core.proofs.ActLaws.{answered_mode}
use Rattle.engine_core.proofs.StoreLaws.{does_as}
use Rattle.engine_core.proofs.event_calls.set_mode.Goals as goal

pub returns : goal.returns
returns c =
    let old = c.args.engine.now.past in
    subst (λ o. EngineDoes (setting_mode c.args.view c.args.only) c.args.engine.now.past o c.make.new.engine.past) (sym c.number_only.ensures)
    (does_as (λ r. r.pos) (making_event (Mode c.args.view c.args.only)) (setting_mode c.args.view c.args.only) old c.make.result c.make.new.engine.past (answered_mode c.args.view c.args.only (history_of old)) c.make.ensures)
