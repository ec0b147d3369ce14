use Rattle.std.proofs.Common.{◌≡◌, ◌≤◌, Some, length, sym, ap, ◌∙◌, arith}
use Rattle.audit.specs.Lines.{policy_among}
use Rattle.audit.proofs.PolicyLaws.{policy_found, policy_nowhere}
use Rattle.audit.proofs.lines.first_policy.Goals as goal

pub returns-in-Some : goal.returns-in-Some
returns-in-Some c =
    let talk = c.index-talks-session.result in
    let here : policy_among talk.replies ≡ Some c.in-Some.reply = ap policy_among (sym c.items.ensures.items) ∙ sym c.in_ok-reply.ensures.first ∙ c.in-Some.is in
    record {
      first = sym (policy_found c.args.talks.now c.loop-session.session talk c.in-Some.reply c.loop-session.invariant c.loop-session-test.true c.index-talks-session.is here);
    }

pub returns : goal.returns
returns c =
    let past : length c.args.talks.now ≤ c.loop-session.session = c.loop-session-test.false in
    record { first = sym (policy_nowhere c.args.talks.now (λ k d l. c.loop-session.invariant k d (omega (arith, l, past)))) }
