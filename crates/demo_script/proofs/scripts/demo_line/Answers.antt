-- If there is no line, its number is outside the script.
use Rattle.std.proofs.Common.{◌≡◌, ◌∙◌, sym, ap, subst, None, Some, ◌<◌}
use Rattle.std.specs.Prelude.{◌⊎◌, ◌↔◌}
use Rattle.demo_script.proofs.PlaceLaws.{none_outside}
use Rattle.demo_script.proofs.scripts.demo_line.Goals as goal

pub returns-in-None-clause-none : goal.returns-in-None-clause-none
returns-in-None-clause-none c = subst (λ line. (line ≡ None) ↔ ((c.args.number ≡ 0) ⊎ (285 < c.args.number))) (c.in-None.ensures.text c.args.demo) (none_outside c.args.demo c.args.number)

pub returns-in_ok-text_of-in-Some-clause-none : goal.returns-in_ok-text_of-in-Some-clause-none
returns-in_ok-text_of-in-Some-clause-none c = subst (λ line. (line ≡ None) ↔ ((c.args.number ≡ 0) ⊎ (285 < c.args.number))) (c.in-Some.ensures.text c.args.demo ∙ ap Some (sym c.in_ok-text_of-in-Some.ensures)) (none_outside c.args.demo c.args.number)
