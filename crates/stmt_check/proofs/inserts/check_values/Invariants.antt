use Rattle.std.proofs.Common.{◌≡◌}
use Rattle.stmt_check.specs.Rows.{values_refusal}
use Rattle.stmt_check.proofs.inserts.check_values.Given as goal

-- what is left decides
abbrev pub invariant-loop-rule : goal.invariant-loop-rule
invariant-loop-rule l = values_refusal l.fn.pos l.fn.rules l.fn.values ≡ values_refusal l.fn.pos l.rule-iterator.a.rest.now l.rule-iterator.b.rest.now
