-- This many digits are in front, and this is their value.
use Rattle.std.proofs.Common.{◌-◌}
use Rattle.stmt_tokens.proofs.Numerals.{IsFront}
use Rattle.stmt_tokens.proofs.tokens.few_digits.Given as goal

abbrev pub invariant-loop-len : goal.invariant-loop-len
invariant-loop-len l = IsFront l.text l.len l.value

abbrev pub decreases-loop-len : goal.decreases-loop-len
decreases-loop-len l = 18 - l.len
