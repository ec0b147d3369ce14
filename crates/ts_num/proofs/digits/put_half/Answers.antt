use Rattle.std.proofs.Common.{◌/◌, ◌%◌, arith}
use Rattle.std.specs.Fmt.{decimal}
use Rattle.ts_num.specs.Digits.{four_digits}
use Rattle.ts_num.proofs.DigitLaws.{decimal_four, put_behind}
use Rattle.ts_num.proofs.digits.put_half.Goals as goal

pub returns-clause-appended : goal.returns-clause-appended
returns-clause-appended c =
    let n = c.args.n in
    put_behind c.args.out.now.items c.put_first-2.new.out.items c.put_four.new.out.items (decimal (n / 10000)) (four_digits (n % 10000)) (decimal n)
    c.put_first-2.ensures.appended c.put_four.ensures.appended (decimal_four n c.if-n-lt-FIVE_DIGITS.false (omega arith))
