use Rattle.std.proofs.lemmas.Nat.Gcd.{IsGcd-from_mod}
use Rattle.ts_num.proofs.fractions.common_divisor.Goals as goal

pub returns : goal.returns
returns c = IsGcd-from_mod c.args.a c.args.b _ (rw c.from.ensures at c.common_divisor_of_words.ensures)
