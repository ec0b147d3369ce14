use Rattle.std.proofs.Common.{◌+◌, sym, ◌∙◌, subst, arith}
use Rattle.stmt_tokens.proofs.Numerals.{IsFront, front_none, front_room, front_small, front_more, front_ends}
use Rattle.stmt_tokens.proofs.tokens.few_digits.Goals as goal

pub loop-len-init : goal.loop-len-init
loop-len-init c = front_none c.args.text.now

pub value_with-value-requires-clause-small : goal.value_with-value-requires-clause-small
value_with-value-requires-clause-small c = front_room c.args.text.now c.loop-len.len c.loop-len.value c.loop-len.invariant (omega arith)

pub loop-len-preserved : goal.loop-len-preserved
loop-len-preserved c =
    subst (λ v. IsFront c.args.text.now (c.loop-len.len + 1) v) (sym c.value_with-value.ensures)
    (front_more c.args.text.now c.loop-len.len c.loop-len.value c.loop-len.invariant (omega arith) (omega arith) (sym c.is_ascii_digit.ensures.value ∙ c.if-is_ascii_digit.true))

pub returns-else-is_ascii_digit-clause-front : goal.returns-else-is_ascii_digit-clause-front
returns-else-is_ascii_digit-clause-front c = omega (arith, c.loop-len.invariant.len)

pub returns-else-is_ascii_digit-clause-all : goal.returns-else-is_ascii_digit-clause-all
returns-else-is_ascii_digit-clause-all c = λ few. front_ends c.args.text.now c.loop-len.len c.loop-len.value c.loop-len.invariant (λ below. sym c.is_ascii_digit.ensures.value ∙ c.if-is_ascii_digit.false)

pub returns-else-is_ascii_digit-clause-value : goal.returns-else-is_ascii_digit-clause-value
returns-else-is_ascii_digit-clause-value c = c.loop-len.invariant.value

pub returns-else-is_ascii_digit-clause-small : goal.returns-else-is_ascii_digit-clause-small
returns-else-is_ascii_digit-clause-small c = front_small c.args.text.now c.loop-len.len c.loop-len.value c.loop-len.invariant

pub returns-after-loop-len-clause-front : goal.returns-after-loop-len-clause-front
returns-after-loop-len-clause-front c = omega (arith, c.loop-len.invariant.len)

pub returns-after-loop-len-clause-all : goal.returns-after-loop-len-clause-all
returns-after-loop-len-clause-all c = λ few. front_ends c.args.text.now c.loop-len.len c.loop-len.value c.loop-len.invariant (λ below. absurd (omega (arith, below, few)))

pub returns-after-loop-len-clause-value : goal.returns-after-loop-len-clause-value
returns-after-loop-len-clause-value c = c.loop-len.invariant.value

pub returns-after-loop-len-clause-small : goal.returns-after-loop-len-clause-small
returns-after-loop-len-clause-small c = front_small c.args.text.now c.loop-len.len c.loop-len.value c.loop-len.invariant
