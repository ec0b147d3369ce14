use Rattle.std.proofs.Common.{◌∙◌, ap, not, rules, tests}
use Rattle.std.proofs.lemmas.Iterator.{YieldsList-from_slice}
use Rattle.std.proofs.lemmas.Iterator.Search.{any_from_yields_List}
use Rattle.par_run.proofs.OutputLaws.{any_worker}
use Rattle.par_run.proofs.outputs.had_memory.Goals as goal

pub returns : goal.returns
returns g c =
    ap not (any_from_yields_List (λ slot. slot.0.out_of_memory) _ _ c.any.result c.any.ensures.ran (YieldsList-from_slice c.args.crew.now cc) (λ x b q k. search (rules, tests)) ∙ any_worker c.args.crew.now)
