use Rattle.std.proofs.Common.{◌≡◌, ◌∙◌, ◌⊎◌, inl, inr, length}
use Rattle.stmt_check.proofs.Steps.{no_value_left}
use Rattle.stmt_check.proofs.inserts.check_values.Goals as goal

pub returns : goal.returns
returns c =
    let rules = c.loop-rule.rule-iterator.a.rest.now in
    let values = c.loop-rule.rule-iterator.b.rest.now in
    let none_left : (length rules ≡ 0) ⊎ (length values ≡ 0) = elim c.in-None.ensures.steps [
      | inl first ↦ inl first.1.0
      | inr second ↦ inr second.1.0
    ] in
    c.loop-rule.invariant ∙ no_value_left c.args.pos rules values none_left
