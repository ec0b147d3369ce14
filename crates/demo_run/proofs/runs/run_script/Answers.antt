-- The source has the text of the script, whose lines are those of the demonstration.
use Rattle.std.proofs.Common.{◌≡◌, ◌∙◌, sym, ap, subst, ◌≤◌, length}
use Rattle.std.specs.Prelude.{IfOk}
use Rattle.ts_io.specs.declared.limits.TheConstants.{INPUT_LIMIT}
use Rattle.ts_store.specs.Stores.{history_seen}
use Rattle.script_run.specs.Runs.{executed_lines}
use Rattle.demo_script.specs.Demo.{demo_lines, demo_text}
use Rattle.demo_script.proofs.TextLaws.{lines, within}
use Rattle.demo_run.specs.Runs.{RanLines}
use Rattle.demo_run.proofs.runs.run_script.Goals as goal

pub run_source-requires-clause-within : goal.run_source-requires-clause-within
run_source-requires-clause-within g c = λ _ _.
    let text : c.new-source.result.left ≡ demo_text c.args.number = ap (λ s. s.left) c.new-source.ensures.made ∙ c.in_ok-script.ensures.text in
    subst (λ t. length t ≤ INPUT_LIMIT) (sym text) (within c.args.number)

pub returns : goal.returns
returns g c =
    let text : c.new-source.result.left ≡ demo_text c.args.number = ap (λ s. s.left) c.new-source.ensures.made ∙ c.in_ok-script.ensures.text in
    let new = history_seen c.run_source.new.store in
    subst (λ h. IfOk c.run_source.result (λ ran. RanLines h (demo_lines c.args.number) ran new)) c.requires.empty
    (subst (λ ls. IfOk c.run_source.result (λ ran. RanLines (history_seen c.args.store.now) ls ran new)) (ap executed_lines text ∙ lines c.args.number) c.run_source.ensures)
