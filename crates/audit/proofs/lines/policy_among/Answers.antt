use borrow.Author.Count.{below_more}
use Rattle.std.proofs.Common.{◌≡◌, ◌<◌, ◌≤◌, true, false, get_or, length, sym, ap, ◌∙◌, arith}
use Rattle.std.proofs.lemmas.List.{get_or_read}
use Rattle.transcript.specs.declared.transcripts.Exchange.{Exchange}
use Rattle.audit.specs.Lines.{asks_policies, line_of}
use Rattle.audit.proofs.PolicyLaws.{found_at, found_nowhere}
use Rattle.audit.proofs.lines.policy_among.Goals as goal

pub returns-then-branch : goal.returns-then-branch
returns-then-branch c =
    let x = c.index-exchanges-place.result in
    let asks : asks_policies (line_of x) ≡ true = sym c.in_ok-asks_policies.ensures.asks ∙ c.if-branch.true in
    record {
      first = sym (found_at (λ e. asks_policies (line_of e)) c.args.exchanges.now c.loop-place.place x c.loop-place.invariant c.loop-place-test.true c.index-exchanges-place.is asks);
    }

pub loop-place-preserved : goal.loop-place-preserved
loop-place-preserved c k d below =
    let xs = c.args.exchanges.now in
    let i = c.loop-place.place in
    let x = c.index-exchanges-place.result in
    let asks : asks_policies (line_of x) ≡ false = sym c.in_ok-asks_policies.ensures.asks ∙ c.if-branch.false in
    let within : i < length xs = c.loop-place-test.true in
    let here : (e : Exchange) → asks_policies (line_of (get_or xs i e)) ≡ false = λ e. ap (λ f. asks_policies (line_of f)) (sym (get_or_read xs i x within c.index-exchanges-place.is e)) ∙ asks in
    below_more (λ n. (e : Exchange) → asks_policies (line_of (get_or xs n e)) ≡ false) i (λ n l e. c.loop-place.invariant n e l) here k below d

pub returns : goal.returns
returns c =
    let past : length c.args.exchanges.now ≤ c.loop-place.place = c.loop-place-test.false in
    record {
      first = sym (found_nowhere (λ e. asks_policies (line_of e)) c.args.exchanges.now (λ k d l. c.loop-place.invariant k d (omega (arith, l, past))));
    }
