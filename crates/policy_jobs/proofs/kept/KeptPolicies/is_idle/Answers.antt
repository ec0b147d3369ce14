use Rattle.std.proofs.Common.{◌≡◌, ◌∙◌, FitsSigned, ap, int_lt, of_z, rules, sym, to_z, to_z-of_z, true, w64}
use Rattle.std.specs.Int.{w128}
use Rattle.std.specs.Prelude.{not}
use Rattle.policy_jobs.specs.Policies.{first_due}
use Rattle.policy_jobs.proofs.FirstDue.{none_before}
use Rattle.policy_jobs.proofs.kept.KeptPolicies.is_idle.Goals as goal

pub returns-then-is_before : goal.returns-then-is_before
returns-then-is_before c =
    let now = c.args.now in
    let fits : FitsSigned w64 now = c.ranges.now in
    let from = c.self.inside.due_from in
    let from_fits : FitsSigned w128 from = search rules in
    let seen : c.is_before.result ≡ int_lt now from =
    c.is_before.ensures ∙ ap (λ a. int_lt a (to_z w128 (of_z w128 from))) (to_z-of_z fits) ∙ ap (int_lt now) (to_z-of_z from_fits) in
    let first : from ≡ first_due c.args.self.now = c.self.invariant ∙ ap first_due c.self.view_is in
    let before : int_lt now (first_due c.args.self.now) ≡ true = sym (seen ∙ ap (int_lt now) first) ∙ c.if-is_before.true in
    record { idle = ap not (sym (none_before now c.args.self.now fits before)) }
