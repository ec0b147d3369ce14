use Rattle.std.proofs.Common.{◌≡◌, Some, sym, ap, ◌∙◌}
use Rattle.std.specs.Prelude.{option_copied}
use Rattle.std.proofs.lemmas.Result.{IfOk-weaker}
use Rattle.engine_state.specs.Tables.{table_at}
use Rattle.engine_state.proofs.PartedLaws.{held_is, spans_part}
use Rattle.engine_state.proofs.parts.StateParts.spans.Goals as goal

pub returns-in-None-clause-held : goal.returns-in-None-clause-held
returns-in-None-clause-held c = λ h st. held_is h c.args.table c.args.self.now st

pub returns-in-Some-clause-spans : goal.returns-in-Some-clause-spans
returns-in-Some-clause-spans c =
    let at : table_at c.args.self.now.tables c.args.table ≡ Some c.in-Some.state.now = sym c.table_if.ensures.table ∙ ap option_copied c.in-Some.is in
    IfOk-weaker c.all_parts.result _ _ (λ spans chained. spans_part c.args.self.now c.args.table c.in-Some.state.now spans c.requires.stands at chained) c.all_parts.ensures

pub returns-in-Some-clause-held : goal.returns-in-Some-clause-held
returns-in-Some-clause-held c = λ h st. held_is h c.args.table c.args.self.now st
