use Rattle.std.proofs.Common.{◌≡◌, ◌-◌, ◌+◌, List, Option, ℤ, drop, length, sym, subst}
use Rattle.std.proofs.lemmas.Result.{err_from_is_err_and}
use Rattle.event_codec.specs.Reading.{items, value_at}
use Rattle.event_codec.proofs.BlockLaws.{behind_more, still_behind}
use Rattle.event_codec.proofs.Loops.{with_front, goes_on, ends, is_done}
use Rattle.event_codec.proofs.reader.Reader.values_into.Goals as goal

pub returns-in_err-value-clause-read : goal.returns-in_err-value-clause-read
returns-in_err-value-clause-read c =
    let p = err_from_is_err_and c.from_residual.result c.from_residual.ensures.1 in
    rw (p.1, p.2) (ends value_at c.in_err-value.field-0.0 (drop (length c.args.into.now) c.loop.into) c.args.count c.loop.counter c.loop.self c.value.new.self (items c.args.count value_at c.args.self.now) c.loop-test.true c.in_err-value.ensures c.loop.invariant.1)

pub loop-preserved : goal.loop-preserved
loop-preserved c = (
  still_behind c.args.into.now c.loop.into c.push.new.self c.in_ok-value.field-0 c.loop.invariant.0 c.in_ok-push.ensures.pushed,
  subst (λ (front : List (Option ℤ)). with_front value_at front (items (c.args.count - (c.loop.counter + 1)) value_at c.value.new.self) ≡ items c.args.count value_at c.args.self.now)
      (sym (behind_more c.args.into.now c.loop.into c.push.new.self c.in_ok-value.field-0 c.loop.invariant.0 c.in_ok-push.ensures.pushed))
      (goes_on value_at (drop (length c.args.into.now) c.loop.into) c.args.count c.loop.counter c.loop.self c.value.new.self c.in_ok-value.field-0 (items c.args.count value_at c.args.self.now) c.loop-test.true c.in_ok-value.ensures c.loop.invariant.1),
)

pub returns-clause-read : goal.returns-clause-read
returns-clause-read c = is_done value_at (drop (length c.args.into.now) c.loop.into) c.args.count c.loop.counter c.loop.self (items c.args.count value_at c.args.self.now) c.loop-test.false c.loop.invariant.1
