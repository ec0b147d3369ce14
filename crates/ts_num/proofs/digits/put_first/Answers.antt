use Rattle.std.proofs.Common.{◌+◌, ◌/◌, ◌%◌, [], ◌∷◌}
use Rattle.std.specs.Fmt.{decimal}
use Rattle.ts_num.specs.Digits.{two_digits}
use Rattle.ts_num.proofs.DigitLaws.{decimal_three, put_behind}
use Rattle.ts_num.proofs.digits.put_first.Goals as goal

pub returns-then-n-lt1000-clause-appended : goal.returns-then-n-lt1000-clause-appended
returns-then-n-lt1000-clause-appended c =
    let n = c.args.n in
    put_behind c.args.out.now.items c.put_one-then-n-lt1000.new.out.items c.put_two-then-n-lt1000.new.out.items ((48 + n / 100) ∷ []) (two_digits (n % 100)) (decimal n)
    c.put_one-then-n-lt1000.ensures.appended c.put_two-then-n-lt1000.ensures.appended (decimal_three n c.if-n-lt100.false c.if-n-lt1000.true)
