use Rattle.std.proofs.Common.{◌≡◌, ◌<◌, ◌^◌, [], ◌∷◌, length, refl, rules, subst, arith}
use Rattle.std.proofs.lemmas.List.{length-map}
use Rattle.result_text.specs.declared.replies.Said.TheVariants as said
use Rattle.ts_sessions.specs.Places.{turns}
use Rattle.ts_sessions.specs.Procedures.{ends}
use Rattle.ts_sessions.specs.Sessions.{IsReply}
use Rattle.ts_sessions.proofs.WalkLaws.{not_begun}
use Rattle.policy_jobs.specs.Policies.{due, due_texts}
use Rattle.policy_jobs.specs.Runs.{RunsTo}
use Rattle.policy_jobs.specs.Turns.{and_all, runs_due}
use Rattle.policy_jobs.proofs.RunLaws.{broken_run}
use Rattle.policy_jobs.proofs.TurnLaws.{line_reported}
use Rattle.policy_jobs.proofs.sessions.PolicySession.run_due.Goals as goal

pub returns-in_err-texts-clause-ran : goal.returns-in_err-texts-clause-ran
returns-in_err-texts-clause-ran g c =
    let alone = g.B.Backend.alone in
    let old = g.B.Backend.state c.args.backend.now in
    let p = g.A.Actor.places c.args.self.now.actor in
    let d = runs_due g.A.Actor.semantics.does c.args.now p c.args.self.now.policies in
    broken_run alone old d (g.A.Actor.named c.args.self.now.actor) c.from_residual.result old p c.args.steps.now c.args.steps.now c.from_residual.ensures.0 (not_begun alone old d) (omega arith)

pub returns-in_err-reply-clause-ran : goal.returns-in_err-reply-clause-ran
returns-in_err-reply-clause-ran g c =
    let alone = g.B.Backend.alone in
    let old = g.B.Backend.state c.args.backend.now in
    let p = g.A.Actor.places c.args.self.now.actor in
    let d = runs_due g.A.Actor.semantics.does c.args.now p c.args.self.now.policies in
    broken_run alone old d (g.A.Actor.named c.args.self.now.actor) c.from_residual-in_err-reply.result old p c.args.steps.now c.args.steps.now c.from_residual-in_err-reply.ensures.0 (not_begun alone old d) (omega arith)

pub returns-clause-ran : goal.returns-clause-ran
returns-clause-ran g c =
    let alone = g.B.Backend.alone in
    let does = g.A.Actor.semantics.does in
    let old = g.B.Backend.state c.args.backend.now in
    let new = g.B.Backend.state c.run_all.new.backend in
    let p = g.A.Actor.places c.args.self.now.actor in
    let q = g.A.Actor.places c.run_all.new.actor in
    let name = g.A.Actor.named c.args.self.now.actor in
    let now = c.args.now in
    let policies = c.args.self.now.policies in
    let n = c.args.steps.now in
    let short : n < 2 ^ 64 = search rules in
    let texts : c.items.result.now ≡ due_texts now policies = search rules in
    let many : c.len.result ≡ length (due now policies) = search (rules, length-map) in
    let is : IsReply name (said.Tick now c.len.result ∷ []) c.in_ok-reply.reply = search rules in
    let line = said.Tick now (length (due now policies)) in
    let is_due : IsReply name (line ∷ []) c.in_ok-reply.reply = subst (λ k. IsReply name (said.Tick now k ∷ []) c.in_ok-reply.reply) many is in
    let all = c.run_all.ensures.ran old n (ends (turns p line)) short (line_reported alone old name p line c.in_ok-reply.reply n short refl is_due) in
    subst (λ ts. RunsTo alone old (and_all does (ends (turns p line)) ts) name c.run_all.result new q n c.run_all.new.steps) texts all
