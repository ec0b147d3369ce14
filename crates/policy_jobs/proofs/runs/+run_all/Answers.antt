use Rattle.std.proofs.Common.{◌-◌, List, ℕ, drop, length, refl, subst, sym, take, arith}
use Rattle.ts_sessions.specs.Sessions.{Reports}
use Rattle.ts_sessions.specs.Walks.{Breaks}
use Rattle.policy_jobs.specs.Runs.{RunsTo}
use Rattle.policy_jobs.specs.Turns.{and_all, and_then}
use Rattle.policy_jobs.proofs.RunLaws.{all_next, breaks_all, broken_run}
use Rattle.policy_jobs.proofs.runs.+run_all.Goals as goal

pub returns-in_err-run-in-len1-up-clause-ran : goal.returns-in_err-run-in-len1-up-clause-ran
returns-in_err-run-in-len1-up-clause-ran g n c = λ s before first short r.
    let does = g.A.Actor.semantics.does in
    let alone = g.B.Backend.alone in
    let name = g.A.Actor.named c.args.actor.now in
    let mid = g.B.Backend.state c.run_one.new.backend in
    let q = g.A.Actor.places c.run_one.new.actor in
    let text = c.items.result.now in
    let rest : List (List ℕ) = take (length c.args.texts.now - 1) (drop 1 c.args.texts.now) in
    let whole = all_next does first c.args.texts.now rest c.text-item.result text (omega (arith, c.in-len1-up.len_at_least)) refl c.text-item.is c.items.ensures.items in
    let one = c.in_err-run-in-len1-up.ensures.ran s before first short r in
    broken_run alone s (and_all does first c.args.texts.now) name c.from_residual.result mid q before c.run_one.new.steps c.from_residual.ensures.0
    (subst (λ d. Breaks alone s d mid) (sym whole) (breaks_all does alone s first name rest (and_then does first text) mid one.0)) one.1

pub returns-in_ok-run-in-len1-up-clause-ran : goal.returns-in_ok-run-in-len1-up-clause-ran
returns-in_ok-run-in-len1-up-clause-ran g n c = λ s before first short r.
    let does = g.A.Actor.semantics.does in
    let alone = g.B.Backend.alone in
    let name = g.A.Actor.named c.args.actor.now in
    let mid = g.B.Backend.state c.run_one.new.backend in
    let new = g.B.Backend.state c.run_all.new.backend in
    let q = g.A.Actor.places c.run_all.new.actor in
    let run = c.in_ok-run-in-len1-up.run' in
    let text = c.items.result.now in
    let rest : List (List ℕ) = take (length c.args.texts.now - 1) (drop 1 c.args.texts.now) in
    let whole = all_next does first c.args.texts.now rest c.text-item.result text (omega (arith, c.in-len1-up.len_at_least)) refl c.text-item.is c.items.ensures.items in
    let one = c.in_ok-run-in-len1-up.ensures in
    let so_far = subst (λ m. Reports alone run.failed s (and_then does first text) m run.reply mid (g.A.Actor.places c.run_one.new.actor) before c.run_one.new.steps) (sym one.name) (one.ran s before first short r) in
    let all = c.run_all.ensures.ran s before (and_then does first text) short so_far in
    subst (λ d. RunsTo alone s d name c.run_all.result new q before c.run_all.new.steps) (sym whole)
    (subst (λ m. RunsTo alone s (and_all does (and_then does first text) rest) m c.run_all.result new q before c.run_all.new.steps) one.name all)
